use Rattle.listing_print.proofs.put.+put_decimal.Given as goal

-- n falls
abbrev pub decreases-put_decimal : goal.decreases-put_decimal
decreases-put_decimal l = l.n
