-- `put_number` meets its contract: one digit, or the digits of a tenth and then the last one.
use Rattle.std.proofs.Common.{sym, ◌+◌, ◌%◌, arith}
use Rattle.text.proofs.DecimalLaws.{one-digit, more-digits, one-length, more-length}
use Rattle.text.proofs.LineLaws.{put_as, put_then, put_byte}
use Rattle.text.proofs.+put_number.Goals as goal

pub bounds-out-at : goal.bounds-out-at
bounds-out-at t c = omega (arith, one-length c.args.n (omega arith))

pub returns-then-n-lt10 : goal.returns-then-n-lt10
returns-then-n-lt10 t c = let a = c.args in put_as (sym (one-digit a.n (omega arith))) (put_byte _ a.at (48 + a.n))

pub put_number-end-requires : goal.put_number-end-requires
put_number-end-requires t c = let h = more-length c.args.n (omega arith) in (omega arith, omega arith)

pub bounds-out-end : goal.bounds-out-end
bounds-out-end t c = let h = more-length c.args.n (omega arith) in omega arith

pub overflow_add-result-2 : goal.overflow_add-result-2
overflow_add-result-2 t c = let h = more-length c.args.n (omega arith) in omega arith

pub returns : goal.returns
returns t c = let a = c.args in
    put_as (sym (more-digits a.n (omega arith))) (put_then c.put_number-end.ensures (put_byte _ _ (48 + a.n % 10)))
