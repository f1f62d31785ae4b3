-- `parse` meets its contract. The invariant: what is read comes to what the tokens from a place on come to.
use Rattle.std.proofs.Common.{take, drop, ◌∙◌, arith}
use Rattle.syntax_parses.proofs.Parsing.{parse_on, parse_off, parse_done, parse_short}
use Rattle.syntax_parses.proofs.parse.Goals as goal

pub returns-in-Err : goal.returns-in-Err
returns-in-Err c =
    let l = c.loop-t in
    let i = l.invariant in
    let w = rw c.in-Err.is at c.feed.ensures in (
      w.1 ∙ i.same_room,
      parse_off c.args.tokens.now l.t-index (omega arith) (drop l.fed.top l.stack) (take l.fed.wrote l.out) c.in-Err.fault w.3 ∙ i.same_end,
    )

pub loop-t-preserved : goal.loop-t-preserved
loop-t-preserved c =
    let l = c.loop-t in
    let i = l.invariant in
    let n = c.in-Ok.next in
    let w = rw c.in-Ok.is at c.feed.ensures in
    record {
      within = omega (arith, w.2, i.same_stack);
      high = omega (arith, w.2, i.high);
      room = omega (arith, w.2, i.room, i.high);
      same_stack = w.0 ∙ i.same_stack;
      same_room = w.1 ∙ i.same_room;
      same_end =
          parse_on c.args.tokens.now l.t-index (omega arith) (drop l.fed.top l.stack) (take l.fed.wrote l.out) (drop n.top c.feed.new.stack)
          (take n.wrote c.feed.new.out) w.3 ∙ i.same_end;
    }

pub returns-then-fed-stack : goal.returns-then-fed-stack
returns-then-fed-stack c =
    let l = c.loop-t in
    let i = l.invariant in (
      i.same_room,
      parse_short c.args.tokens.now l.t-index (omega (arith, c.loop-t-test.false)) l.stack (take l.fed.wrote l.out) l.fed.top (omega (arith, i.same_stack))
          ∙ i.same_end,
    )

pub returns : goal.returns
returns c =
    let l = c.loop-t in
    let i = l.invariant in (
      i.same_room,
      parse_done c.args.tokens.now l.t-index (omega (arith, c.loop-t-test.false)) l.stack (take l.fed.wrote l.out) l.fed.top (omega (arith, i.same_stack))
          ∙ i.same_end,
    )
