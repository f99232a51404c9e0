use Rattle.std.proofs.Common.{rules, arith, ◌<◌, ◌∙◌, sym, ap, append_assoc, ◌++◌, ◌∷◌, [], ◌/◌, ◌%◌, ◌+◌, ◌^◌, decimal, length, length-append}
use Rattle.std.proofs.lemmas.Fmt.{decimal_digit, decimal_step, length-decimal-le}
use Rattle.page.proofs.number.Decimal.+push_to.Goals as goal

pub returns-then-is_digit-clause-bytes : goal.returns-then-is_digit-clause-bytes
returns-then-is_digit-clause-bytes t c = c.push_digit.ensures ∙ ap (λ x. c.args.text.now.bytes ++ x) (sym (decimal_digit _ c.if-is_digit.true))

pub push_digit-requires-2-clause-room : goal.push_digit-requires-2-clause-room
push_digit-requires-2-clause-room t c =
    let high : c.args.self.0 < 2 ^ 64 = search rules in
    let front = length-decimal-le 19 (c.args.self.0 / 10) (omega arith) (omega arith) (omega arith) in
    omega (arith, ap length c.push_to.ensures.bytes, length-append c.args.text.now.bytes (decimal (c.args.self.0 / 10)))

pub returns-clause-bytes : goal.returns-clause-bytes
returns-clause-bytes t c =
    c.push_digit-2.ensures ∙ ap (λ x. x ++ ((48 + c.args.self.0 % 10) ∷ [])) c.push_to.ensures.bytes ∙ append_assoc c.args.text.now.bytes _ _ ∙
    ap (λ x. c.args.text.now.bytes ++ x) (sym (decimal_step c.args.self.0 c.if-is_digit.false (search rules)))

pub returns-clause-len : goal.returns-clause-len
returns-clause-len t c =
    let high : c.args.self.0 < 2 ^ 64 = search rules in
    let front = length-decimal-le 19 (c.args.self.0 / 10) (omega arith) (omega arith) (omega arith) in
    let digits = length-append c.args.text.now.bytes (decimal (c.args.self.0 / 10)) in
    let last = length-append c.push_to.new.text.bytes ((48 + c.args.self.0 % 10) ∷ []) in
    omega (arith, ap length c.push_to.ensures.bytes, ap length c.push_digit-2.ensures)
