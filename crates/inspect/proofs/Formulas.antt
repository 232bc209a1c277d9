-- A formula's text, by the form of its node. Assumes nothing.
use Rattle.std.proofs.Common.{◌≡◌, ℕ, zero, suc, ◌-◌, Bool, leb, List, [], ◌++◌, codes, sym, refl, ap, ◌∙◌, subst, append_assoc, arith}
use Rattle.table.specs.declared.kind.Kind.{Kind}
use Rattle.table.specs.declared.node.Node.{Node}
use Rattle.std.specs.Fmt.{HasWritten}
use Rattle.std.specs.declared.fmt.Formatter.{Formatter}
use Rattle.inspect.specs.Forms.{Deep, form_at, body_text, form_text, formula_text, form_strength, rank_of, opening, closing}
use Rattle.inspect.specs.declared.formula.Form.{Form}
use Rattle.inspect.specs.declared.formula.Form.TheVariants as form
use Rattle.inspect.specs.declared.formula.Strength.{Strength}
use Rattle.std.proofs.Output.{has_written_append, has_written_of_eq}

-- a form that may have no operands is written alike, whatever its operands would be
no_parts : (k : Kind) (x : Form) (around : Strength) (p q : ℕ → Strength → List ℕ) → Deep x 0 → form_text k x around p ≡ form_text k x around q
no_parts k (form.Truth v) around p q h = refl
no_parts k (form.Register r) around p q h = refl
no_parts k (form.Constant w) around p q h = refl
no_parts k (form.Prefix o a) around p q h = absurd (omega arith)
no_parts k (form.Infix o a b) around p q h = absurd (omega arith)
no_parts k (form.At a s) around p q h = absurd (omega arith)
no_parts k (form.Name n) around p q h = refl

abbrev pub operand_text : Kind → List Node → ℕ → ℕ → Strength → List ℕ
operand_text k nodes d a x = formula_text k nodes (d - 1) a x

pub text_at : (k : Kind) (nodes : List Node) (d n : ℕ) (around : Strength) (x : Form)
    → x ≡ form_at nodes n d → Deep x d → form_text k x around (operand_text k nodes d) ≡ formula_text k nodes d n around
unfolding formula_text
text_at k nodes zero n around x e deep =
    no_parts k x around (operand_text k nodes zero) (λ a s. []) deep
    ∙ ap (λ (y : Form). form_text k y around (λ a s. [])) e
text_at k nodes (suc d) n around x e deep =
    let less : suc d - 1 ≡ d = omega arith in
    ap (λ (m : ℕ). form_text k x around (λ a s. formula_text k nodes m a s)) less
    ∙ ap (λ (y : Form). form_text k y around (λ a s. formula_text k nodes d a s)) e

-- the texts around the operands, joined as they are written
pub prefixed : (word t t' : List ℕ) → t ≡ t' → (word ++ codes " ") ++ t ≡ word ++ (codes " " ++ t')
prefixed word t t' q = append_assoc word (codes " ") t ∙ (λ i. word ++ (codes " " ++ q i))

pub infixed : (a a' word word' b b' : List ℕ) → a ≡ a' → word ≡ word' → b ≡ b'
    → a ++ ((codes " " ++ (word ++ codes " ")) ++ b) ≡ a' ++ (codes " " ++ (word' ++ (codes " " ++ b')))
infixed a a' word word' b b' p q r =
    ap (λ (l : List ℕ). a ++ (codes " " ++ l)) (append_assoc word (codes " ") b) ∙ (λ i. p i ++ (codes " " ++ (q i ++ (codes " " ++ r i))))

pub suffixed : (a a' more : List ℕ) → a ≡ a' → a ++ more ≡ a' ++ more
suffixed a a' more p = ap (λ (l : List ℕ). l ++ more) p

module _ {W : Type 0} (took : W → List ℕ → W → Type 0) where
  -- the body of the form x, which is y
  pub placed : (k : Kind) (part : ℕ → Strength → List ℕ) (x y : Form) (f g h : Formatter W) → x ≡ y → g ≡ h
      → HasWritten took f (body_text k y part) h → HasWritten took f (body_text k x part) g
  placed k part x y f g h e same put =
      let P : Formatter W → Type 0 = λ v. HasWritten took f (body_text k x part) v in
      subst P (sym same) (has_written_of_eq took f (body_text k y part) (body_text k x part) h (ap (λ (v : Form). body_text k v part) (sym e)) put)

  -- the parentheses, if any, around the body
  pub assembled : (k : Kind) (nodes : List Node) (d n : ℕ) (around : Strength) (x : Form) (b : Bool) (f₀ f₁ f₂ f₃ : Formatter W)
      → x ≡ form_at nodes n d → Deep x d → b ≡ leb (rank_of (form_strength x)) (rank_of around)
      → HasWritten took f₀ (opening b) f₁ → HasWritten took f₁ (body_text k x (operand_text k nodes d)) f₂ → HasWritten took f₂ (closing b) f₃
      → HasWritten took f₀ (formula_text k nodes d n around) f₃
  assembled k nodes d n around x b f₀ f₁ f₂ f₃ e deep tested opened body closed =
      let middle = body_text k x (operand_text k nodes d) in
      has_written_of_eq took f₀ (opening b ++ (middle ++ closing b)) (formula_text k nodes d n around) f₃
      (ap (λ (v : Bool). opening v ++ (middle ++ closing v)) tested ∙ text_at k nodes d n around x e deep)
      (has_written_append took f₀ (opening b) f₁ (middle ++ closing b) f₃ opened (has_written_append took f₁ middle f₂ (closing b) f₃ body closed))
