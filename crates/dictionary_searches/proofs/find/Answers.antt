-- `find` meets its contract. The invariant: all before `lo` come before the string, and all from `hi` on after it.
use Prim.Native.Nat.{◌+◌, ◌-◌, ◌/◌, ◌<◌}
use mathlib.Core.Path.{ap, ◌∙◌, subst}
use mathlib.Core.List.{[]}
use native.Mathlib.Omega.{arith}
use lib.ListN.{length, get_or}
use Rattle.dictionaries.specs.Strings.{string_before}
use Rattle.dictionaries.specs.Dictionaries.{strings_of}
use Rattle.dictionaries.specs.Lookups.{precedence}
use Rattle.dictionaries.proofs.Strings.{before_ordered}
use Rattle.dictionaries.proofs.Searching.{Between, between_start, between_up, between_down, means_before}
use Rattle.dictionaries.proofs.Searching.{means_same, means_after, lookup_none, lookup_at, strings_length}
use Rattle.sequences.proofs.Ascending.{Ascending, neighbours_ascending}
use Rattle.dictionary_searches.proofs.find.Goals as goal

pub loop-lo-init : goal.loop-lo-init
loop-lo-init c =
    let a = c.args in
    subst (Between a.s.now (strings_of a.bytes.now a.ends.now) 0) (strings_length a.bytes.now 0 a.ends.now)
    (between_start a.s.now (strings_of a.bytes.now a.ends.now))

pub overflow_add-mid : goal.overflow_add-mid
overflow_add-mid c =
    let i = c.loop-lo.invariant.ordered in
    let w = c.loop-lo.invariant.within in
    let a = c.args in
    let n = strings_length a.bytes.now 0 a.ends.now in
    omega arith

pub string-requires : goal.string-requires
string-requires c = let i = c.loop-lo.invariant.ordered in
    let w = c.loop-lo.invariant.within in
    let n = strings_length c.args.bytes.now 0 c.args.ends.now in
    record {
      ends_value = c.requires.cut;
      n_in_bounds =
          (let h : c.loop-lo.lo + (c.loop-lo.hi - c.loop-lo.lo) / 2 < length c.args.ends.now = omega arith in h);
    }

pub overflow_add-lo : goal.overflow_add-lo
overflow_add-lo c =
    let i = c.loop-lo.invariant.ordered in
    let w = c.loop-lo.invariant.within in
    let a = c.args in
    let n = strings_length a.bytes.now 0 a.ends.now in
    omega arith

pub loop-lo-preserved-in-Less : goal.loop-lo-preserved-in-Less
loop-lo-preserved-in-Less c =
    let ss = strings_of c.args.bytes.now c.args.ends.now in
    let up : Ascending string_before ss = neighbours_ascending before_ordered ss c.requires.ascend in
    let e = c.compare.ensures in
    let t = c.string.ensures in
    between_up c.args.s.now ss up c.loop-lo.lo c.loop-lo.hi (c.loop-lo.lo + (c.loop-lo.hi - c.loop-lo.lo) / 2) c.loop-lo.invariant (omega arith) (omega arith)
    (means_before (get_or ss (c.loop-lo.lo + (c.loop-lo.hi - c.loop-lo.lo) / 2) []) c.args.s.now (e ∙ ap (λ x. precedence x c.args.s.now) t) c.in-Less.is)

pub loop-lo-preserved : goal.loop-lo-preserved
loop-lo-preserved c =
    let ss = strings_of c.args.bytes.now c.args.ends.now in
    let up : Ascending string_before ss = neighbours_ascending before_ordered ss c.requires.ascend in
    let e = c.compare.ensures in
    let t = c.string.ensures in
    between_down c.args.s.now ss up c.loop-lo.lo c.loop-lo.hi (c.loop-lo.lo + (c.loop-lo.hi - c.loop-lo.lo) / 2) c.loop-lo.invariant (omega arith) (omega arith)
    (means_after (get_or ss (c.loop-lo.lo + (c.loop-lo.hi - c.loop-lo.lo) / 2) []) c.args.s.now (e ∙ ap (λ x. precedence x c.args.s.now) t) c.in-Greater.is)

pub returns-in-Equal : goal.returns-in-Equal
returns-in-Equal c =
    let ss = strings_of c.args.bytes.now c.args.ends.now in
    let up : Ascending string_before ss = neighbours_ascending before_ordered ss c.requires.ascend in
    let e = c.compare.ensures in
    let t = c.string.ensures in
    let w = c.loop-lo.invariant.within in
    lookup_at c.args.s.now ss up (c.loop-lo.lo + (c.loop-lo.hi - c.loop-lo.lo) / 2) (omega arith)
    (means_same (get_or ss (c.loop-lo.lo + (c.loop-lo.hi - c.loop-lo.lo) / 2) []) c.args.s.now (e ∙ ap (λ x. precedence x c.args.s.now) t) c.in-Equal.is)

pub returns : goal.returns
returns c =
    lookup_none c.args.s.now (strings_of c.args.bytes.now c.args.ends.now) c.loop-lo.lo c.loop-lo.hi c.loop-lo.invariant (omega arith)
