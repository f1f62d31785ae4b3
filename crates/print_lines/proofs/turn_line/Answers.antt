-- `turn_line` meets its contract, ending by ending.
use Rattle.print_lines.specs.Lines.{turn_line}
use Rattle.print_lines.proofs.turn_line.Goals as goal

pub returns-in-Done : goal.returns-in-Done
unfolding turn_line
returns-in-Done c = record { line = rw c.in-Done.is c.served_line.ensures.line; room = c.served_line.ensures.room }

pub returns-in-Spent : goal.returns-in-Spent
unfolding turn_line
returns-in-Spent c = record { line = rw c.in-Spent.is c.served_line-in-Spent.ensures.line; room = c.served_line-in-Spent.ensures.room }

pub returns-in-Full : goal.returns-in-Full
unfolding turn_line
returns-in-Full c = record { line = rw c.in-Full.is c.served_line-in-Full.ensures.line; room = c.served_line-in-Full.ensures.room }

pub returns-in-Refused : goal.returns-in-Refused
unfolding turn_line
returns-in-Refused c = record { line = rw c.in-Refused.is c.refused_line.ensures.line; room = c.refused_line.ensures.room }
