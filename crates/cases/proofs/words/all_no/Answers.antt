use Rattle.std.proofs.Common.{rules, ℕ, ◌≡◌, replicate, sym, subst, List, [], ◌++◌}
use Rattle.model.specs.Planes.{ones, Table}
use Rattle.cases.proofs.Tables.{no-table}
use Rattle.cases.proofs.words.all_no.Goals as goal

pub returns : goal.returns
returns c =
    let e : c.fill.new.self ≡ replicate 128 ones = c.fill.ensures.after (λ y k. search rules) in
    subst (λ (w : List ℕ). Table (replicate 128 0 ++ (w ++ [])) (λ (j : ℕ). [])) (sym e) no-table
