-- What a call does to a reader. Assumes nothing.
use Rattle.std.specs.Prelude.{◌≡◌, ℕ, ◌+◌, Bool, true}
use Rattle.table.specs.declared.reader.Reader.{Reader}

-- after a call that reads size bytes if it goes well
pub record Advanced {F : Type 0} (before after : Reader F) (well : Bool) (size : ℕ) : Type 0 where
  pub bytes : after.bytes.now ≡ before.bytes.now
  pub at : well ≡ true → after.at ≡ before.at + size
