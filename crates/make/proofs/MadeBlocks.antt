-- What is said of texts holds of the blocks that are made of them. Assumes nothing.
use Rattle.std.proofs.Common.{◌≡◌, refl, arith, sym, ap, ◌∙◌, subst, List, ℕ, Vec, Option, None, Some, option_map, Result, Ok, Err}
use Rattle.std.specs.declared.alloc.Global.{Global}
use Rattle.model.specs.ProblemBytes.{encode_problem, encode_plan}
use Rattle.make.specs.Parsed.{bad, got}
use Rattle.make.specs.SourceText.{Source, source}
use Rattle.make.specs.Made.{Makes}
use Rattle.make.specs.RoundTrip.{MadeInto, ShownIsMade, ShownPlanIsMade, MadeIsRead}
use Rattle.words.specs.declared.complaint.Complaint.{Complaint}
use Rattle.words.specs.declared.complaint.MakeError.{MakeError}
use Rattle.words.specs.declared.complaint.MakeError.TheVariants.{Text, OutOfMemory}
use Rattle.make.specs.declared.making.Blocks.{Blocks}
use Rattle.make.proofs.Shown.{shown-is-said, shown-plan-is-said}
use Rattle.make.proofs.SoundSources.{said-is-read}

same-source : (r s : Source) (left right : List ℕ) → got r left ≡ got s right → r ≡ s
same-source r s left right e = grind arith

-- what says something has nothing wrong
not-bad : (r : Source) (left : List ℕ) (c : Complaint) (q : ℕ) → got r left ≡ bad c q → ⊥
not-bad r left c q e = grind arith

module _ (t left : List ℕ) (r : Source) (e : source t ≡ got r left) where
  made-into : (made : Result Blocks MakeError) → Makes t made → MadeInto (encode_problem r.limits r.problem) (option_map encode_plan r.plan) made
  made-into (Ok b) (s, right, e', k) =
      let same : r ≡ s = same-source r s left right (sym e ∙ e') in
      rw same (k.problem, k.plan)
  made-into (Err (Text c q)) e' = not-bad r left c q (sym e ∙ e')
  made-into (Err OutOfMemory) k = tt

pub shown-is-made : ShownIsMade
shown-is-made N block p made bytes e names m =
    let (said, same) = shown-is-said N block p bytes e names in
    subst (λ (x : List ℕ). MadeInto x None made) same (made-into _ _ _ said made m)

pub shown-plan-is-made : ShownPlanIsMade
shown-plan-is-made N block plan p steps made bytes plan-bytes e e' names m =
    let (said, same-plan) = shown-plan-is-said N block plan p steps bytes plan-bytes e e' names in
    let (_, same) = shown-is-said N block p bytes e names in
    rw (← same, ← same-plan) (made-into _ _ _ said made m)

-- a block is made only of a plan
unmade : (blocks : Option (Vec ℕ Global)) → option_map (λ p. p.items) blocks ≡ None → blocks ≡ None
unmade None e = refl
unmade (Some p) e = absurd (grind arith)

pub made-is-read : MadeIsRead
made-is-read t b (r, left, e, k) =
    let (limits, problem, plan) = said-is-read t left r e in
    record {
      says = r;
      left = left;
      said = e;
      version = rw k.problem limits;
      problem = rw (k.problem, limits) problem;
      plan = λ steps i. (encode_plan steps, k.plan ∙ ap (option_map encode_plan) i, plan steps i);
      no_plan = λ i. unmade b.plan (k.plan ∙ ap (option_map encode_plan) i);
    }
