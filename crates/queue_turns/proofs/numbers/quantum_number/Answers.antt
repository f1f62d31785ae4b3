-- `quantum_number` meets its contract.
use Rattle.queue_turns.proofs.Numbering.{quantum_none, quantum_long, quantum_right_fact}
use Rattle.queue_turns.proofs.numbers.quantum_number.Goals as goal

pub returns-then-quantum-eq0 : goal.returns-then-quantum-eq0
returns-then-quantum-eq0 c = quantum_none c.args.quantum c.if-quantum-eq0.true

pub returns-then-quantum-gt-MOST_STEPS : goal.returns-then-quantum-gt-MOST_STEPS
returns-then-quantum-gt-MOST_STEPS c = quantum_long c.args.quantum c.if-quantum-eq0.false c.if-quantum-gt-MOST_STEPS.true

pub returns : goal.returns
returns c = quantum_right_fact c.args.quantum c.if-quantum-eq0.false c.if-quantum-gt-MOST_STEPS.false
