use Rattle.reader.proofs.control_line.+control_line.Given as goal

-- each `:if` leaves one depth less
abbrev pub decreases-control_line : goal.decreases-control_line
decreases-control_line l = l.depth
