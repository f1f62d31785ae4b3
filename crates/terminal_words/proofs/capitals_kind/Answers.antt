use Rattle.terminal_words.proofs.Spelled.{right_spellings, at_within, at_kind, absent_kind}
use native.Mathlib.Omega.{arith}
use Rattle.terminal_words.proofs.capitals_kind.Goals as goal

-- src/lib.rt:50:9
pub find-requires : goal.find-requires
find-requires c =
    let p = c.requires in
    rw (p.0, p.1) right_spellings

-- src/lib.rt:52:26
pub offset_bounds-kinds-n : goal.offset_bounds-kinds-n
offset_bounds-kinds-n c =
    let h = at_within c.args.letters.now c.args.ends.now c.args.kinds.now c.args.capitals.now c.requires.0 c.requires.1 c.requires.2
    c.find.result c.find.ensures c.in-Ok.n c.in-Ok.is in
    omega (arith, h)

-- src/lib.rt:52:26
pub bounds-kinds-n : goal.bounds-kinds-n
bounds-kinds-n c =
    at_within c.args.letters.now c.args.ends.now c.args.kinds.now c.args.capitals.now c.requires.0 c.requires.1 c.requires.2
    c.find.result c.find.ensures c.in-Ok.n c.in-Ok.is

-- src/lib.rt:46:1
pub returns-in-Ok : goal.returns-in-Ok
returns-in-Ok c =
    at_kind c.args.letters.now c.args.ends.now c.args.kinds.now c.args.capitals.now c.requires.0 c.requires.1 c.requires.2 c.find.result
    c.find.ensures c.in-Ok.n c.in-Ok.is

-- src/lib.rt:46:1
pub returns-in-Err : goal.returns-in-Err
returns-in-Err c =
    absent_kind c.args.letters.now c.args.ends.now c.args.kinds.now c.args.capitals.now c.requires.0 c.requires.1 c.requires.2
    c.find.result c.find.ensures _ c.in-Err.is
