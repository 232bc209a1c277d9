-- A port set that is written port by port. Assumes nothing.
use Rattle.std.proofs.Common.{◌≡◌, ℕ, zero, suc, ◌+◌, ◌-◌, ◌/◌, ◌^◌, ◌<◌, Bool, true, false, cond, not, ◌&&◌, ◌==◌, List, [], ◌++◌, codes, decimal, bit_and, sym, refl, ap, ◌∙◌, append_assoc, append-nil, arith}
use Rattle.std.proofs.Math.Nat.{div-one}
use Rattle.std.proofs.Output.{writes_in_calls_nil, has_written_append, has_written_of_eq, has_written_to_eq}
use Rattle.std.proofs.lemmas.Nat.{and_mask, shr-shr}
use Rattle.std.specs.Fmt.{IsPlainFormatter, HasWritten}
use Rattle.std.specs.declared.fmt.Formatter.{Formatter}
use Rattle.readings.specs.Ports.{has, port_count}
use Rattle.inspect.specs.Values.{port_text, ports_from}

-- port p is the lowest digit after p shifts
pub has_shifted : (w p : ℕ) → (bit_and (w / 2 ^ p) 1 == 1) ≡ has w p
unfolding has
has_shifted w zero = ap (λ (x : ℕ). bit_and x 1 == 1) (div-one w) ∙ ap (λ (x : ℕ). x == 1) (and_mask w 1)
has_shifted w (suc p) =
    let e : suc p ≡ 1 + p = omega arith in
    ap (λ (k : ℕ). bit_and (w / 2 ^ k) 1 == 1) e
    ∙ ap (λ (x : ℕ). bit_and x 1 == 1) (sym (shr-shr w 1 p))
    ∙ has_shifted (w / 2) p

-- what stands before the next port
abbrev pub between_text : Bool → List ℕ
between_text first = cond first [] (codes ", ")

there_text : (first : Bool) (p : ℕ) → port_text true first p ≡ between_text first ++ decimal p
there_text true p = refl
there_text false p = refl

no_longer : (first : Bool) → (first && not true) ≡ false
no_longer true = refl
no_longer false = refl

still : (first : Bool) → (first && not false) ≡ first
still true = refl
still false = refl

ports_step : (w p : ℕ) (first : Bool) → p < port_count
    → ports_from w p first (port_count - p) ≡ port_text (has w p) first p ++ ports_from w (p + 1) (first && not (has w p)) (port_count - (p + 1))
unfolding ports_from
ports_step w p first h =
    let e : port_count - p ≡ suc (port_count - (p + 1)) = omega arith in
    ap (ports_from w p first) e

step_there : (w p : ℕ) (first : Bool) → p < port_count → has w p ≡ true
    → (between_text first ++ decimal p) ++ ports_from w (p + 1) false (port_count - (p + 1)) ≡ ports_from w p first (port_count - p)
step_there w p first h e =
    (λ i. sym (there_text first p) i ++ ports_from w (p + 1) (sym (no_longer first) i) (port_count - (p + 1)))
    ∙ ap (λ (b : Bool). port_text b first p ++ ports_from w (p + 1) (first && not b) (port_count - (p + 1))) (sym e)
    ∙ sym (ports_step w p first h)

step_absent : (w p : ℕ) (first : Bool) → p < port_count → has w p ≡ false
    → ports_from w (p + 1) first (port_count - (p + 1)) ≡ ports_from w p first (port_count - p)
step_absent w p first h e =
    ap (λ (b : Bool). ports_from w (p + 1) b (port_count - (p + 1))) (sym (still first))
    ∙ ap (λ (b : Bool). port_text b first p ++ ports_from w (p + 1) (first && not b) (port_count - (p + 1))) (sym e)
    ∙ sym (ports_step w p first h)

module _ {W : Type 0} (took : W → List ℕ → W → Type 0) where
  -- the ports below p of the set w were written between f and g, and between stands before the next
  abbrev pub Sofar : Formatter W → Formatter W → ℕ → ℕ → List ℕ → Type 0
  Sofar f g w p between =
      (first : Bool) × (between ≡ between_text first)
      × (IsPlainFormatter f → (t : List ℕ) × HasWritten took f t g × (t ++ ports_from w p first (port_count - p) ≡ ports_from w 0 true port_count))

  pub none_yet : (f : Formatter W) (w : ℕ) → Sofar f f w 0 []
  none_yet f w = (true, refl, λ plain. ([], record { wrote = writes_in_calls_nil took f.writer; plain = plain }, refl))

  pub one_more : (f g h h' : Formatter W) (w p : ℕ) (between between' : List ℕ) → p < port_count → has w p ≡ true → h' ≡ h → between' ≡ codes ", "
      → Sofar f g w p between → (IsPlainFormatter g → HasWritten took g (between ++ decimal p) h) → Sofar f h' w (p + 1) between'
  one_more f g h h' w p between between' lt there same comma old put =
      let first = old.0 in
      let a = between_text first ++ decimal p in (
        false,
        comma,
        λ plain.
            let s = old.2 plain in
            let one = has_written_of_eq took g (between ++ decimal p) a h (ap (λ (l : List ℕ). l ++ decimal p) old.1) (put s.1.plain) in (
              s.0 ++ a,
              has_written_append took f s.0 g a h' s.1 (has_written_to_eq took g a h h' same one),
              append_assoc s.0 a _ ∙ ap (λ (l : List ℕ). s.0 ++ l) (step_there w p first lt there) ∙ s.2,
            ),
      )

  pub none_there : (f g g' : Formatter W) (w p : ℕ) (between between' : List ℕ) → p < port_count → has w p ≡ false → g' ≡ g → between' ≡ between
      → Sofar f g w p between → Sofar f g' w (p + 1) between'
  none_there f g g' w p between between' lt absent same kept old = (
    old.0,
    kept ∙ old.1,
    λ plain.
        let s = old.2 plain in
        (s.0, has_written_to_eq took f s.0 g g' same s.1, ap (λ (l : List ℕ). s.0 ++ l) (step_absent w p old.0 lt absent) ∙ s.2),
  )

  pub all_of : (f g : Formatter W) (w p : ℕ) (between : List ℕ) → p ≡ port_count → Sofar f g w p between → IsPlainFormatter f → HasWritten took f (ports_from w 0 true port_count) g
  unfolding ports_from
  all_of f g w p between e old plain =
      let s = old.2 plain in
      let none : ports_from w p old.0 (port_count - p) ≡ [] = ap (λ (q : ℕ). ports_from w p old.0 (port_count - q)) e in
      has_written_of_eq took f s.0 _ g (sym (append-nil s.0) ∙ ap (λ (l : List ℕ). s.0 ++ l) (sym none) ∙ s.2) s.1
