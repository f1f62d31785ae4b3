-- `sizes` meets its contract: the lengths in order, then the quantum.
use native.Mathlib.Omega.{arith}
use lib.ListN.{length}
use Rattle.plans.specs.Endings.{ending_at}
use Rattle.lists.specs.Gathering.{least_output}
use Rattle.turn_sizes.proofs.Sizing.{state_short, output_short, quantum_none, quantum_long, sizes_right}
use Rattle.turn_sizes.proofs.sizes.Goals as goal

pub returns-then-state-lt-STATE_WORDS : goal.returns-then-state-lt-STATE_WORDS
returns-then-state-lt-STATE_WORDS c =
    state_short (length c.args.state.now) (least_output (ending_at c.args.ending.now)) (length c.args.output.now) c.args.quantum
    c.if-state-lt-STATE_WORDS.true

pub returns-then-output-least_output : goal.returns-then-output-least_output
returns-then-output-least_output c =
    output_short (length c.args.state.now) (least_output (ending_at c.args.ending.now)) (length c.args.output.now) c.args.quantum
    (omega arith) (omega arith)

pub returns-then-quantum-eq0 : goal.returns-then-quantum-eq0
returns-then-quantum-eq0 c =
    quantum_none (length c.args.state.now) (least_output (ending_at c.args.ending.now)) (length c.args.output.now) c.args.quantum
    (omega arith) (omega arith) c.if-quantum-eq0.true

pub returns-then-quantum-gt-MOST_STEPS : goal.returns-then-quantum-gt-MOST_STEPS
returns-then-quantum-gt-MOST_STEPS c =
    quantum_long (length c.args.state.now) (least_output (ending_at c.args.ending.now)) (length c.args.output.now) c.args.quantum
    (omega arith) (omega arith) c.if-quantum-eq0.false c.if-quantum-gt-MOST_STEPS.true

pub returns : goal.returns
returns c =
    sizes_right (length c.args.state.now) (least_output (ending_at c.args.ending.now)) (length c.args.output.now) c.args.quantum
    (omega arith) (omega arith) c.if-quantum-eq0.false c.if-quantum-gt-MOST_STEPS.false
