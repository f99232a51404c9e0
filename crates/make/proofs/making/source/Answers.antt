use Rattle.std.proofs.Common.{◌≡◌, length, vec_len, sym, ap, ◌∙◌, subst, arith}
use Rattle.std.proofs.lemmas.List.{length-map}
use Rattle.make.specs.Parsed.{got}
use Rattle.make.specs.SourceText.{rest}
use Rattle.make.specs.Reads.{Reads}
use Rattle.make.specs.Made.{BlocksOf}
use Rattle.make.specs.Views.{texts}
use Rattle.make.proofs.Parsing.{wrong_at, passed, returned}
use Rattle.make.proofs.BlockSteps.{source-version, source-facts, source-none, source-rest}
use Rattle.make.proofs.making.source.Goals as goal

pub returns-in_err-limits : goal.returns-in_err-limits
returns-in_err-limits c =
    rw (returned c.from_residual.result c.from_residual.ensures.1) (passed _ _ _ _ _ _ _ (source-version _) c.in_err-limits.ensures)

pub returns-in_err-names : goal.returns-in_err-names
returns-in_err-names c =
    let given = c.in_ok-limits.ensures in
    let e₁ = given.read ∙ ap (λ x. got x c.version.new.text.bytes.now) (sym given.is.same) in
    rw (returned c.from_residual-in_err-names.result c.from_residual-in_err-names.ensures.1) (passed _ _ _ _ _ _ _ (source-facts _ _ _ e₁) c.in_err-names.ensures.read)

pub returns-then-is_empty : goal.returns-then-is_empty
returns-then-is_empty c =
    let given = c.in_ok-limits.ensures in
    let e₁ = given.read ∙ ap (λ x. got x c.version.new.text.bytes.now) (sym given.is.same) in
    let named = c.in_ok-names.ensures.read in
    let e₂ = named.read ∙ ap (λ x. got x c.facts.new.text.bytes.now) (sym named.is) in
    let count : vec_len c.in_ok-names.names ≡ length (texts c.in_ok-names.names.items) = omega (arith, c.in_ok-names.names.ok.0, length-map c.in_ok-names.names.items (λ s. s.now)) in
    wrong_at _ _ _ _ _ _ _ (source-none _ _ _ e₁ _ _ e₂ _ count (sym c.is_empty.ensures ∙ c.if-is_empty.true)) c.at.ensures c.word-place.ensures.left

pub returns : goal.returns
returns c =
    let given = c.in_ok-limits.ensures in
    let e₁ = given.read ∙ ap (λ x. got x c.version.new.text.bytes.now) (sym given.is.same) in
    let named = c.in_ok-names.ensures.read in
    let e₂ = named.read ∙ ap (λ x. got x c.facts.new.text.bytes.now) (sym named.is) in
    let count : vec_len c.in_ok-names.names ≡ length (texts c.in_ok-names.names.items) = omega (arith, c.in_ok-names.names.ok.0, length-map c.in_ok-names.names.items (λ s. s.now)) in
    let step = source-rest _ _ _ e₁ _ _ e₂ _ count (sym c.is_empty.ensures ∙ c.if-is_empty.false) in
    let same = step ∙ ap (λ ns. rest c.in_ok-limits.limits (texts ns) c.facts.new.text.bytes.now) (sym c.deref.ensures.value) in
    subst (λ r. Reads r c.blocks-2.result c.blocks-2.new.text.bytes.now BlocksOf) (sym same) c.blocks-2.ensures
