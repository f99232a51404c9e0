-- The text of a problem, and of a plan after it, is read as what it shows. Assumes nothing.
use Rattle.std.proofs.Common.{◌≡◌, refl, Bool, true, false, cond, List, [], ◌∷◌, ◌++◌, append_assoc, ℕ, arith, zero-add, length, get_or, eqb, le-leb, Option}
use Rattle.std.specs.Prelude.{codes, decimal}
use Rattle.std.specs.Str.{bytes_eq}
use Rattle.std.proofs.lemmas.Bool.{ne_eqb}
use Rattle.std.proofs.lemmas.Fmt.{decimal_digit}
use Rattle.model.specs.declared.Limits.{Limits}
use Rattle.model.specs.Limits.{version1, version2, limits_of, max_actions, max_problem_bytes}
use Rattle.model.specs.ProblemBytes.{Problem, encode_problem}
use Rattle.model.specs.WellFormed.{ProblemOk}
use Rattle.model.proofs.Laws.Tabulate.{length-tabulate}
use Rattle.words.specs.Words.{word, after_word, past_blanks, word_length, run_length}
use Rattle.names.specs.Names.{Names, NamesOk}
use Rattle.names.specs.Texts.{formula_text}
use Rattle.names.specs.ProblemText.{facts_text, actions_text, problem_text}
use Rattle.make.specs.Parsed.{got, ◌>>=◌, ◌>>◌, and_then, done, here, peek, next, found, require}
use Rattle.make.specs.SourceText.{source, version, key, limits_named, rest, plan, problem_with}
use Rattle.make.proofs.FormulaRead.{fact_names, formula-read_spaced}
use Rattle.make.proofs.ActionsRead.{names_of_actions, with_names, actions-of, names-from, EndsActions, actions-read}
use Rattle.make.proofs.FactsRead.{facts-read}

-- the version's line is read as its limits
abbrev pub VersionRead : Limits → Type 0
VersionRead F = (t : List ℕ) → version (codes "version " ++ (decimal F.version ++ (10 ∷ t))) ≡ got F (10 ∷ t)

version1-read : VersionRead version1
unfolding version key limits_named ◌>>=◌ ◌>>◌ and_then done here next found require after_word word past_blanks word_length run_length
version1-read t = rw (decimal_digit 1 (omega arith)) refl

version2-read : VersionRead version2
unfolding version key limits_named ◌>>=◌ ◌>>◌ and_then done here next found require after_word word past_blanks word_length run_length
version2-read t = rw (decimal_digit 2 (omega arith)) refl

pub version-read : (block : List ℕ) → VersionRead (limits_of block)
version-read block = of-version (eqb (get_or block 0 0) 2)
  where
    of-version : (b : Bool) → VersionRead (cond b version2 version1)
    of-version true = version2-read
    of-version false = version1-read

module _ (N : Names) (F : Limits) (p : Problem) where
  -- what follows the facts, with a text after it
  abbrev pub from_start : List ℕ → List ℕ
  from_start t =
      codes "start " ++
      (formula_text N p.initial ++
      (10 ∷ (codes "goal " ++ (formula_text N p.goal ++ (10 ∷ (actions_text N 0 p.actions ++ t))))))

  -- the whole text, with another after it
  whole-text :
      (t : List ℕ) →
      problem_text N F p ++ t ≡ codes "version " ++ (decimal F.version ++ (10 ∷ (facts_text N 0 p.facts ++ from_start t)))
  unfolding problem_text
  whole-text t = simp append_assoc

  -- no fact is among it
  begins : (t : List ℕ) → bytes_eq (word (10 ∷ from_start t)) (codes "fact") ≡ false
  unfolding word past_blanks word_length run_length
  begins t = refl

  module _ (ok : ProblemOk F p) (names : NamesOk N p.facts (length p.actions)) where
    abbrev pub L : List (List ℕ)
    L = fact_names N p.facts

    -- the problem is made of its parts again
    problem-made : problem_with L p.initial p.goal (with_names N 0 p.actions) ≡ p
    problem-made = rw (length-tabulate p.facts _, actions-of N 0 p.actions) refl

    -- a text after the problem: what it says of a plan
    pub record Says (steps : Option (List ℕ)) (t : List ℕ) : Type 0 where
      pub ends : EndsActions L t
      pub plan : plan (names_of_actions N (length p.actions)) (10 ∷ t) ≡ got steps (10 ∷ [])

    -- the text from the word "start" on
    start-read :
        (steps : Option (List ℕ)) (t : List ℕ) → Says steps t →
        rest F L (10 ∷ from_start t) ≡ got (record { limits = F; problem = p; plan = steps }) (10 ∷ [])
    unfolding rest key ◌>>=◌ ◌>>◌ and_then done here peek next found require after_word word past_blanks word_length run_length
    start-read steps t says =
        let as' = p.actions in
        let acts = actions-read N F p.facts names.facts (length as') names.actions as' 0 max_actions [] t ok.count (omega arith) refl ok.actions says.ends in
        let goal = formula-read_spaced N p.facts names.facts p.goal (10 ∷ (actions_text N 0 as' ++ t)) ok.goal refl in
        let after = 10 ∷ (codes "goal " ++ (formula_text N p.goal ++ (10 ∷ (actions_text N 0 as' ++ t)))) in
        let initial = formula-read_spaced N p.facts names.facts p.initial after ok.initial refl in
        let called = names-from N 0 [] as' refl in
        rw (initial, goal, acts, called, zero-add (length as'), says.plan, problem-made, le-leb (length (encode_problem F p)) max_problem_bytes ok.short) refl

    -- the whole text
    pub source-read :
        VersionRead F → (steps : Option (List ℕ)) (t : List ℕ) → Says steps t →
        source (problem_text N F p ++ t) ≡ got (record { limits = F; problem = p; plan = steps }) (10 ∷ [])
    unfolding source ◌>>=◌ ◌>>◌ and_then here require
    source-read version-ok steps t says =
        let listed = facts-read N p.facts names.facts p.facts 0 F.facts (from_start t) ok.facts (omega arith) (begins t) in
        let some : eqb (length L) 0 ≡ false =
        rw (length-tabulate p.facts _) (ne_eqb p.facts 0 (λ z. omega (arith, ok.some_fact))) in
        rw (whole-text t, version-ok _, listed, zero-add p.facts, some, start-read steps t says) refl
