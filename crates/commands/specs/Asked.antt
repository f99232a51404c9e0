-- What a command line asks for, by the rows of what clap found on it.
use Rattle.std.specs.Prelude.{◌≡◌, Bool, true, false, List, ℕ, ◌^◌, ◌<◌, Option, Some, None, option_map, option_and_then, find, slice_get, codes}
use Rattle.std.specs.Str.{bytes_eq}
use Rattle.std.specs.Str.Parse.{IsNumeral, digits_value, without_leading_plus}
use Rattle.clap.specs.Simple.{subcommand_rows_of}
use Rattle.clap.specs.Values.{read_as}
use Rattle.clap.specs.Walk.{Row}
use Rattle.clap.specs.declared.parser.matches.ArgMatches.{ArgMatches}
use Rattle.commands.specs.declared.command.Command.{Command}
use Rattle.commands.specs.declared.command.Command.TheVariants.{Judge, Write, Follow, Run, Facts, Search, Explain, Show, Make}
use Rattle.commands.specs.declared.command.Request.{Request}
use Rattle.commands.specs.declared.command.TaskPaths.{TaskPaths}

module _ (rows : List Row) where
  -- what was found under a word
  abbrev pub row : List ℕ → Option Row
  row word = find (λ r. bytes_eq r.id word) rows

  -- its text
  abbrev pub text : List ℕ → Option (List ℕ)
  text word = option_and_then (λ r. slice_get r.values 0) (row word)

  -- and its text as clap reads it
  abbrev pub reading : List ℕ → Option (List ℕ)
  reading word = option_and_then (λ r. option_map (read_as r.reading) (slice_get r.values 0)) (row word)

  -- this text was found under that word
  abbrev pub Finds : List ℕ → List ℕ → Type 0
  Finds word t = text word ≡ Some t

  -- this number was, in decimal digits
  pub record Counts (word : List ℕ) (number : ℕ) : Type 0 where
    pub digits : List ℕ
    pub is : reading word ≡ Some digits
    pub numeral : IsNumeral 10 (without_leading_plus digits)
    pub small : number < 2 ^ 64
    pub value : digits_value 10 (without_leading_plus digits) ≡ number

  -- the paths of a problem and of a plan
  abbrev pub OfTask : TaskPaths → Type 0
  OfTask task = Finds (codes "problem") task.problem.now × Finds (codes "plan") task.plan.now

  -- the command of this name asks for that
  abbrev pub Asks : List ℕ → Command → Type 0
  Asks name (Judge task grant) = (name ≡ codes "judge") × OfTask task × Counts (codes "grant") grant
  Asks name (Write task list grant) = (name ≡ codes "write") × OfTask task × Finds (codes "output") list.now × Counts (codes "grant") grant
  Asks name (Follow task list) = (name ≡ codes "follow") × OfTask task × Finds (codes "list") list.now
  Asks name (Run task state) = (name ≡ codes "run") × OfTask task × Finds (codes "state") state.now
  Asks name (Facts task state) = (name ≡ codes "facts") × OfTask task × Finds (codes "state") state.now
  Asks name (Search problem longest grant plan) =
      (name ≡ codes "search") × Finds (codes "problem") problem.now × Counts (codes "longest") longest × Counts (codes "grant") grant ×
      (option_map (λ p. p.now) plan ≡ text (codes "output"))
  Asks name (Explain task grant) = (name ≡ codes "explain") × OfTask task × Counts (codes "grant") grant
  Asks name (Show problem plan) =
      (name ≡ codes "show") × Finds (codes "problem") problem.now × (option_map (λ p. p.now) plan ≡ text (codes "plan"))
  Asks name (Make text' problem plan) =
      (name ≡ codes "make") × Finds (codes "text") text'.now × Finds (codes "output") problem.now ×
      (option_map (λ p. p.now) plan ≡ text (codes "plan"))

  -- a flag is set
  pub record Flags (word : List ℕ) (set : Bool) : Type 0 where
    pub none : reading word ≡ None → set ≡ false
    pub yes : reading word ≡ Some (codes "true") → set ≡ true
    pub no : reading word ≡ Some (codes "false") → set ≡ false

-- what was found of a command, under its name, is what this asks for
pub record Requests (matches : ArgMatches) (request : Request) : Type 0 where
  pub name : List ℕ
  pub rows : List Row
  pub found : subcommand_rows_of matches ≡ Some (name, rows)
  pub command : Asks rows name request.command
  pub names : option_map (λ p. p.now) request.names ≡ text rows (codes "names")
  pub json : Flags rows (codes "json") request.json
