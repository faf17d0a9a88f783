use Rattle.loft_value_text.proofs.length.+digits.Given as goal

-- a number without its last digits is smaller
abbrev pub decreases-digits : goal.decreases-digits
decreases-digits l = l.number
