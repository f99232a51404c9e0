-- What a writer wrote.
use Rattle.std.specs.Prelude.{◌≡◌, List, ◌+◌, ◌≤◌, ℕ, length}
use Rattle.std.proofs.lemmas.List.Edits.{sets}
use Rattle.numbers.specs.declared.writer.Writer.{Writer}

-- the bytes fit into the buffer from the writer's place on
abbrev pub HasRoom : Writer → List ℕ → Type 0
HasRoom w bytes = w.at + length bytes ≤ length w.out.now

-- the bytes stand there, and the place is now behind them; it is the same buffer, and the rest of it is as it was
pub record Writes (before : Writer) (bytes : List ℕ) (after : Writer) : Type 0 where
  pub same : after.out.ghost_name ≡ before.out.ghost_name
  pub size : length after.out.now ≡ length before.out.now
  pub place : after.at ≡ before.at + length bytes
  pub is : after.out.now ≡ sets before.out.now before.at bytes
