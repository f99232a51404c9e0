-- Which commands need a number. Assumes nothing.
use Rattle.std.proofs.Common.{◌≡◌, List, ℕ, codes}
use Rattle.clap.specs.Walk.{Row}
use Rattle.commands.specs.Asked.{Counts, Asks}
use Rattle.commands.specs.declared.command.Command.{Command}
use Rattle.commands.specs.declared.command.Command.TheVariants.{Judge, Write, Follow, Run, Facts, Search, Explain, Show, Make}

module _ (rows : List Row) (name : List ℕ) (follow : name ≡ codes "follow" → ⊥) (run : name ≡ codes "run" → ⊥) (facts : name ≡ codes "facts" → ⊥)
    (show : name ≡ codes "show" → ⊥) (make : name ≡ codes "make" → ⊥) where
  -- the other commands ask for a grant
  pub no-grant : ((n : ℕ) → Counts rows (codes "grant") n → ⊥) → (c : Command) → Asks rows name c → ⊥
  no-grant lacks (Judge task grant) a = lacks grant a.2
  no-grant lacks (Write task list grant) a = lacks grant a.3
  no-grant lacks (Explain task grant) a = lacks grant a.2
  no-grant lacks (Search problem longest grant plan) a = lacks grant a.3
  no-grant lacks (Follow task list) a = follow a.0
  no-grant lacks (Run task state) a = run a.0
  no-grant lacks (Facts task state) a = facts a.0
  no-grant lacks (Show problem plan) a = show a.0
  no-grant lacks (Make text problem plan) a = make a.0

  -- and a search alone for a longest length
  pub no-longest :
      (name ≡ codes "judge" → ⊥) → (name ≡ codes "write" → ⊥) → (name ≡ codes "explain" → ⊥) → ((n : ℕ) → Counts rows (codes "longest") n → ⊥) →
      (c : Command) → Asks rows name c → ⊥
  no-longest judge write explain lacks (Search problem longest grant plan) a = lacks longest a.2
  no-longest judge write explain lacks (Judge task grant) a = judge a.0
  no-longest judge write explain lacks (Write task list grant) a = write a.0
  no-longest judge write explain lacks (Explain task grant) a = explain a.0
  no-longest judge write explain lacks (Follow task list) a = follow a.0
  no-longest judge write explain lacks (Run task state) a = run a.0
  no-longest judge write explain lacks (Facts task state) a = facts a.0
  no-longest judge write explain lacks (Show problem plan) a = show a.0
  no-longest judge write explain lacks (Make text problem plan) a = make a.0
