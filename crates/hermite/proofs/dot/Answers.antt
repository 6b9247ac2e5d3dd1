-- `hermite::dot` meets its contract: the sizes of the products sum to less than 2^63, so each product and each shorter sum fits.
use lib.Dec.{lit<}
use Rattle.lattice.specs.Buffer.{at}
use Rattle.hermite.proofs.DotLaws.{one-fits, two_fits, two-whole, three-fits, whole}
use Rattle.hermite.proofs.dot.Goals as goal

pub overflow_mul-two : goal.overflow_mul-two
overflow_mul-two c = one-fits (at c.args.x) (at c.args.y) c.requires.0 0 (lit< tt) c.two-1.given c.two-2-1.given

pub overflow_mul-two-2 : goal.overflow_mul-two-2
overflow_mul-two-2 c = one-fits (at c.args.x) (at c.args.y) c.requires.0 1 (lit< tt) c.two-3-1.given c.two-4-1.given

pub overflow_add-two : goal.overflow_add-two
overflow_add-two c =
    two_fits (at c.args.x) (at c.args.y) c.requires.0 c.two-1.given c.two-2-1.given c.two-3-1.given c.two-4-1.given

pub returns-then-m-eq2 : goal.returns-then-m-eq2
returns-then-m-eq2 c =
    two-whole (at c.args.x) (at c.args.y) c.requires.0 c.two-1.given c.two-2-1.given c.two-3-1.given c.two-4-1.given
    (c.requires.1 c.if-m-eq2.true)

pub overflow_mul-result : goal.overflow_mul-result
overflow_mul-result c = one-fits (at c.args.x) (at c.args.y) c.requires.0 2 (lit< tt) c.result-1.given c.result-2-1.given

pub overflow_add-result : goal.overflow_add-result
overflow_add-result c =
    three-fits (at c.args.x) (at c.args.y) c.requires.0 c.two-1.given c.two-2-1.given c.two-3-1.given c.two-4-1.given
    c.result-1.given c.result-2-1.given

pub returns : goal.returns
returns c =
    whole (at c.args.x) (at c.args.y) c.requires.0 c.two-1.given c.two-2-1.given c.two-3-1.given c.two-4-1.given
    c.result-1.given c.result-2-1.given
