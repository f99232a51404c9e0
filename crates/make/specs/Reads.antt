-- What the code answers where a parser reads a text.
use Rattle.std.specs.Prelude.{◌≡◌, List, ℕ, Result, Ok, Err}
use Rattle.make.specs.Parsed.{Parsed, bad, got}
use Rattle.words.specs.declared.complaint.MakeError.{MakeError}
use Rattle.words.specs.declared.complaint.MakeError.TheVariants.{Text, OutOfMemory}

-- a value that the parser gives with this text left, of which the code has `v`
pub record Gives {A V : Type 0} (parsed : Parsed A) (v : V) (left : List ℕ) (Is : A → V → Type 0) : Type 0 where
  pub value : A
  pub read : parsed ≡ got value left
  pub is : Is value v

-- what the code answers, and the text that it leaves: the parser's value as the code has it, or what is wrong; memory may run out
abbrev pub Reads : {A V : Type 0} → Parsed A → Result V MakeError → List ℕ → (A → V → Type 0) → Type 0
Reads parsed (Ok v) left Is = Gives parsed v left Is
Reads parsed (Err (Text c q)) left Is = parsed ≡ bad c q
Reads parsed (Err OutOfMemory) left Is = Unit {0}
