-- `write_no_number` meets its contract: by which of the two it is.
use Rattle.constants.proofs.Appending.{and_pair, or_pair}
use Rattle.constants.proofs.write_no_number.Goals as goal

pub returns-then-o-eq-EQUAL : goal.returns-then-o-eq-EQUAL
returns-then-o-eq-EQUAL c =
    let a = c.args in
    and_pair a.out.now a.at a.o a.x c.write_pair.new.out c.write_pair.result c.and.result.0
    c.and.ensures c.if-o-eq-EQUAL.true c.write_pair.ensures

pub returns : goal.returns
returns c =
    let a = c.args in
    or_pair a.out.now a.at a.o a.x c.write_pair-2.new.out c.write_pair-2.result c.or.result.0
    c.or.ensures c.if-o-eq-EQUAL.false c.write_pair-2.ensures
