-- `feed` meets its contract. The invariant: the token comes to what it comes to with the symbols from a place on.
use Rattle.std.proofs.Common.{◌+◌, ◌%◌, get_or, take, drop, length-set, sym, ◌∙◌, arith}
use borrow.Author.Tests.{not-true, not-false}
use Rattle.syntax_cells.specs.Finding.{placed_symbols}
use Rattle.syntax_parses.proofs.Feeding.{feed_node, feed_refuse, feed_pass, feed_shift, feed_write, feed_end, placed_from}
use Rattle.syntax_parses.proofs.feed.Goals as goal

pub loop-at-preserved-then-s-ge64 : goal.loop-at-preserved-then-s-ge64
loop-at-preserved-then-s-ge64 c =
    let t = c.args.token in
    let l = c.loop-at in
    let i = l.invariant in
    let r = length-set l.out l.m (get_or l.stack l.at 0) in
    record {
      same_stack = i.same_stack;
      same_room = omega (arith, r, i.same_room);
      few = omega (arith, i.few);
      same_end = feed_node (t % 128) t l.at l.m l.stack l.out (omega arith) (omega arith) (omega (arith, i.few, i.same_room, i.same_stack)) ∙ i.same_end;
    }

pub returns-in-Refuse : goal.returns-in-Refuse
returns-in-Refuse c =
    let t = c.args.token in
    let l = c.loop-at in
    let i = l.invariant in
    let w = rw c.in-Refuse.is at c.cell.ensures in (
      i.same_stack,
      i.same_room,
      tt,
      feed_refuse (t % 128) t l.at l.m l.stack l.out (omega arith) (omega arith) c.in-Refuse.fault w.0 ∙ i.same_end,
    )

pub returns-then-not-placing : goal.returns-then-not-placing
unfolding placed_symbols
returns-then-not-placing c =
    let t = c.args.token in
    let l = c.loop-at in
    let i = l.invariant in
    let p = c.in-Shift.placing in
    let w = rw c.in-Shift.is at c.cell.ensures in
    let d = c.push-low.ensures in
    let b = not-true p.writes c.if-not-placing.true in
    let s = rw b at w.0 in
    let f = placed_from p c.args.table.now (drop (l.at + 1) l.stack) (drop c.push-low.result c.push-low.new.stack) c.requires.3 d.2 in (
      omega (arith, d.1, i.same_stack),
      i.same_room,
      (omega (arith, d.0, i.same_stack), omega (arith, d.0, w.1), omega (arith, d.0, w.1, i.few)),
      feed_shift (t % 128) t l.at l.m l.stack l.out (omega arith) (omega arith) c.push-low.result c.push-low.new.stack (placed_symbols p) f s ∙ i.same_end,
    )

pub returns-in-Shift : goal.returns-in-Shift
unfolding placed_symbols
returns-in-Shift c =
    let t = c.args.token in
    let l = c.loop-at in
    let i = l.invariant in
    let p = c.in-Shift.placing in
    let w = rw c.in-Shift.is at c.cell.ensures in
    let d = c.push-low.ensures in
    let b = not-false p.writes c.if-not-placing.false in
    let s = rw b at w.0 in
    let r = length-set l.out l.m t in
    let f = placed_from p c.args.table.now (drop (l.at + 1) l.stack) (drop c.push-low.result c.push-low.new.stack) c.requires.3 d.2 in (
      omega (arith, d.1, i.same_stack),
      omega (arith, r, i.same_room),
      (omega (arith, d.0, i.same_stack), omega (arith, d.0, w.1), omega (arith, d.0, w.1, i.few)),
      feed_write (t % 128) t l.at l.m l.stack l.out (omega arith) (omega arith) c.push-low.result c.push-low.new.stack (placed_symbols p) f s
          (omega (arith, i.few, i.same_room, i.same_stack)) ∙ i.same_end,
    )

pub loop-at-preserved : goal.loop-at-preserved
loop-at-preserved c =
    let t = c.args.token in
    let l = c.loop-at in
    let i = l.invariant in
    let w = rw c.in-Pass.is at c.cell.ensures in
    record {
      same_stack = i.same_stack;
      same_room = i.same_room;
      few = omega (arith, i.few);
      same_end = feed_pass (t % 128) t l.at l.m l.stack l.out (omega arith) (omega arith) w.0 ∙ i.same_end;
    }

pub returns : goal.returns
returns c =
    let t = c.args.token in
    let l = c.loop-at in
    let i = l.invariant in (
      i.same_stack,
      i.same_room,
      tt,
      sym (feed_end (t % 128) t l.at l.stack (take l.m l.out) (omega (arith, l.auto.at-end, c.loop-at-test.false, i.same_stack, c.requires.1))) ∙ i.same_end,
    )
