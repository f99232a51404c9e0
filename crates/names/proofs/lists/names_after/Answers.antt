use Rattle.std.proofs.Common.{◌≡◌, refl, sym, ap, ◌∙◌, true, List, ℕ, ◌++◌, append-nil, append_assoc, arith, rules, Result, Ok, Err, IsErrOf}
use Rattle.words.specs.Words.{after_word}
use Rattle.names.specs.Lists.{texts, has_ended, words_after, are_names}
use Rattle.names.specs.declared.lists.NamesError.TheVariants.{BadName}
use Rattle.names.specs.declared.lists.NamesError.{NamesError}
use Rattle.std.specs.Result.{IsErrAnd}
use Rattle.names.proofs.Distinct.{one-more, no-more}
use Rattle.names.proofs.Reading.{after-end, after-key, after-other, after-shorter, after-within}
use Rattle.names.proofs.lists.names_after.Goals as goal

pub loop-key-init : goal.loop-key-init
unfolding are_names
loop-key-init c = rw c.new-names.ensures.items (refl, refl)

found :
    (names : List (List ℕ)) (key t all : List ℕ) → has_ended t ≡ true → names ++ words_after key t ≡ words_after key all → names ≡ words_after key all
found names key t all e invariant = sym (append-nil names) ∙ (ap (λ (x : List (List ℕ)). names ++ x) (sym (after-end key t e)) ∙ invariant)

pub returns-then-is_empty-clause-all : goal.returns-then-is_empty-clause-all
returns-then-is_empty-clause-all c =
    let e = rw c.word-word.ensures.bytes at (sym c.is_empty.ensures ∙ c.if-is_empty.true) in
    found _ c.args.key.now c.loop-key.left.bytes.now c.args.text.now e c.loop-key.invariant.0

pub returns-then-is_empty-clause-names : goal.returns-then-is_empty-clause-names
returns-then-is_empty-clause-names c =
    let e = rw c.word-word.ensures.bytes at (sym c.is_empty.ensures ∙ c.if-is_empty.true) in
    rw (found _ c.args.key.now c.loop-key.left.bytes.now c.args.text.now e c.loop-key.invariant.0) at c.loop-key.invariant.1

-- what a call passed on is what it met
passed-on : {A : Type 0} (r : Result A NamesError) {x : NamesError} → IsErrAnd r (λ e. e ≡ x) → IsErrOf r BadName → x ≡ BadName
passed-on (Ok a) met bad = absurd (search rules)
passed-on (Err e) met bad = sym met ∙ search rules

pub returns-in_err-push_name-clause-bad : goal.returns-in_err-push_name-clause-bad
returns-in_err-push_name-clause-bad c = λ bad.
    let e = rw c.word-word.ensures.bytes at (sym c.is_empty.ensures ∙ c.if-is_empty.false) in
    let k = rw c.word-word.ensures.bytes at (sym c.eq.ensures ∙ c.if-eq.true) in
    let t = c.loop-key.left.bytes.now in
    let names = texts c.loop-key.names.items in
    let new = rw (c.word-name.ensures.bytes, c.word-word.ensures.after) at (c.in_err-push_name.ensures.bad (ap Err (passed-on c.from_residual.result c.from_residual.ensures.1 bad))) in
    rw (← c.loop-key.invariant.0, after-key c.args.key.now t e k) (no-more names _ _ new)

pub loop-key-smaller-then-eq : goal.loop-key-smaller-then-eq
loop-key-smaller-then-eq c =
    let e = rw c.word-word.ensures.bytes at (sym c.is_empty.ensures ∙ c.if-is_empty.false) in
    let t = c.loop-key.left.bytes.now in
    rw (c.word-name.ensures.after, c.word-word.ensures.after) (omega (arith, after-shorter t e, after-within (after_word t)))

pub loop-key-preserved-then-eq : goal.loop-key-preserved-then-eq
loop-key-preserved-then-eq c =
    let e = rw c.word-word.ensures.bytes at (sym c.is_empty.ensures ∙ c.if-is_empty.false) in
    let k = rw c.word-word.ensures.bytes at (sym c.eq.ensures ∙ c.if-eq.true) in
    let t = c.loop-key.left.bytes.now in
    let names = texts c.loop-key.names.items in
    let (written, named) = c.loop-key.invariant in (
      rw (c.in_ok-push_name.ensures.pushed, c.word-name.ensures.bytes, c.word-name.ensures.after, c.word-word.ensures.after, append_assoc)
          (ap (λ (x : List (List ℕ)). names ++ x) (sym (after-key c.args.key.now t e k)) ∙ written),
      rw c.in_ok-push_name.ensures.pushed (one-more names _ named c.in_ok-push_name.ensures.new),
    )

pub loop-key-smaller : goal.loop-key-smaller
loop-key-smaller c =
    let e = rw c.word-word.ensures.bytes at (sym c.is_empty.ensures ∙ c.if-is_empty.false) in
    rw c.word-word.ensures.after (after-shorter c.loop-key.left.bytes.now e)

pub loop-key-preserved : goal.loop-key-preserved
loop-key-preserved c =
    let e = rw c.word-word.ensures.bytes at (sym c.is_empty.ensures ∙ c.if-is_empty.false) in
    let k = rw c.word-word.ensures.bytes at (sym c.eq.ensures ∙ c.if-eq.false) in
    let t = c.loop-key.left.bytes.now in
    let names = texts c.loop-key.names.items in
    let (written, named) = c.loop-key.invariant in
    (rw c.word-word.ensures.after (ap (λ (x : List (List ℕ)). names ++ x) (sym (after-other c.args.key.now t e k)) ∙ written), named)
