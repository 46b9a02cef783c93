-- The proof of the cycle of calls {put_decimal}: a small number is a digit, any other what its tenth puts and a digit.
-- The measure is the number. Assumes nothing.
use Rattle.listing.proofs.put.+put_decimal.Given as goal

abbrev pub decreases-put_decimal : goal.decreases-put_decimal
decreases-put_decimal l = l.n
