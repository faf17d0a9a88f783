use Rattle.loft_value_text.proofs.line.+push_digits.Given as goal

-- a number without its last digits is smaller
abbrev pub decreases-push_digits : goal.decreases-push_digits
decreases-push_digits l = l.number
