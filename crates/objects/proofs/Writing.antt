-- What the kit writes of an object is the text of its members. Assumes nothing.
use Rattle.std.proofs.Common.{◌≡◌, refl, ap, true, false, List, [], ◌∷◌, ◌++◌, ℕ, decimal, Result, Ok, Err, Ordering, Less, Equal, Greater}
use Rattle.std.specs.Ordering.{nat_cmp, match_ordering}
use Rattle.std.specs.Cmp.Lexicographic.{slice_cmp}
use Rattle.std.proofs.lemmas.Bool.{or_parts}
use Rattle.serde_json.specs.Data.{Data, Members, no_members, member, put}
use Rattle.serde_json.specs.View.{items_of}
use Rattle.serde_json.specs.Written.{items_text, has_float, items_have_float, members_have_float}
use Rattle.serde_json.proofs.OnLiterals.{serde_json_on_literals}
use Rattle.model.specs.declared.Refusal.{Refusal}
use Rattle.model.specs.declared.Outcome.TheVariants.{Reached, Missed, Blocked}
use Rattle.model.specs.declared.Verdict.TheVariants.{Right, Wrong, Undecided}
use Rattle.model.specs.declared.Search.TheVariants.{Found, NoneRight, Undecided as SearchUndecided}
use Rattle.model.specs.Answers.{part}
use Rattle.model.specs.Run.{Part, at_member, at_fact, blocked}
use Rattle.answers.specs.declared.answer.Answer.{Answer}
use Rattle.answers.specs.declared.answer.Answer.TheVariants.{Judged, Written, Followed, Ran, Rests, Searched}
use Rattle.objects.specs.Members.{Content, number, word, steps, Member, later_steps, object_text}
use Rattle.objects.specs.Json.{outcome_members, wrong_members, told_members, made_members}
use Rattle.objects.specs.Objects.{step_numbers, content_data, put_member, put_each, object_of, written}

-- no member holds a float, so that the kit says what it writes
steps-exact : (p : List ℕ) → items_have_float (items_of (step_numbers p)) ≡ false
steps-exact [] = refl
steps-exact (b ∷ bs) = steps-exact bs

content-exact : (x : Content) → has_float (content_data x) ≡ false
content-exact (number n) = refl
content-exact (word w) = refl
content-exact (steps p) = steps-exact p

one-exact : (o : Ordering) (a b c : Members) → members_have_float a ≡ false → members_have_float b ≡ false → members_have_float c ≡ false → members_have_float (match_ordering o a b c) ≡ false
one-exact Less a b c p q r = p
one-exact Equal a b c p q r = q
one-exact Greater a b c p q r = r

put-exact : (k : List ℕ) (d : Data) (ms : Members) → has_float d ≡ false → members_have_float ms ≡ false → members_have_float (put k d ms) ≡ false
put-exact k d no_members f h = rw f refl
put-exact k d (member l e ms) f h =
    let p = or_parts (has_float e) (members_have_float ms) h in
    one-exact (slice_cmp nat_cmp k l) _ _ _ (rw f h) (rw f p.1) (rw p.0 (put-exact k d ms f p.1))

each-exact : (ms : List Member) (object : Members) → members_have_float object ≡ false → members_have_float (put_each ms object) ≡ false
unfolding put_each
each-exact [] object h = h
each-exact (m ∷ ms) object h = each-exact ms (put_member m object) (put-exact m.0 _ object (content-exact m.1) h)

pub object-exact : (ms : List Member) → has_float (object_of ms) ≡ false
object-exact ms = each-exact ms no_members refl

-- what is written is the text of the members
abbrev IsText : List Member → Type 0
IsText ms = written ms ≡ object_text ms

later-written : (p : List ℕ) → items_text true (items_of (step_numbers p)) ≡ later_steps p
unfolding later_steps
later-written [] = refl
later-written (b ∷ bs) = ap (λ (t : List ℕ). 44 ∷ (decimal b ++ t)) (later-written bs)

blocked-written : (step : ℕ) (p : Part) → IsText (outcome_members (blocked (record { step = step; part = p })))
unfolding serde_json_on_literals put_each written
blocked-written step (at_member m) = refl
blocked-written step (at_fact f) = refl

stopped-written : (step : ℕ) (p : Part) (state visits : ℕ) → IsText (wrong_members state (blocked (record { step = step; part = p })) visits)
unfolding serde_json_on_literals put_each written
stopped-written step (at_member m) state visits = refl
stopped-written step (at_fact f) state visits = refl

-- of an answer, or of a refusal
pub told-written : (r : Result Answer Refusal) → IsText (told_members r)
unfolding serde_json_on_literals put_each written
told-written (Ok (Judged (Right lines a))) = refl
told-written (Ok (Judged (Wrong s Reached a))) = refl
told-written (Ok (Judged (Wrong s Missed a))) = refl
told-written (Ok (Judged (Wrong s (Blocked b) a))) = stopped-written b.step (part b.part) s a
told-written (Ok (Judged (Undecided a))) = refl
told-written (Ok (Written bytes)) = refl
told-written (Ok (Followed lines)) = refl
told-written (Ok (Ran Reached)) = refl
told-written (Ok (Ran Missed)) = refl
told-written (Ok (Ran (Blocked b))) = blocked-written b.step (part b.part)
told-written (Ok (Rests set)) = refl
told-written (Ok (Searched (Found [] a))) = refl
told-written (Ok (Searched (Found (b ∷ bs) a))) = rw (later-written bs) refl
told-written (Ok (Searched (NoneRight a))) = refl
told-written (Ok (Searched (SearchUndecided [] a))) = refl
told-written (Ok (Searched (SearchUndecided (b ∷ bs) a))) = rw (later-written bs) refl
told-written (Err r) = refl

-- of a block that was made
pub made-written : (length : ℕ) → IsText (made_members length)
unfolding serde_json_on_literals put_each written
made-written length = refl
