-- Worked values of the definitions.
use Rattle.std.proofs.Common.{◌≡◌, pos, negsuc, Some, None, refl, codes, [], ◌∷◌}
use Rattle.std.specs.declared.cmp.Ordering.TheVariants.{Less}
use Rattle.std.specs.Fmt.{digits}
use Rattle.xf_num.specs.Number.{scale, sum, product, quotient, remainder, floor_of, ceiling_of, rounded, order_of}
use Rattle.xf_num.specs.Written.{read_at, printed}

sum_out_of_range : sum (Some (pos 999999999999999999)) (Some (pos 1)) ≡ None
sum_out_of_range = refl

-- 0.000003 times -0.5
product_cut : product 6 (Some (pos 3)) (Some (negsuc 499999)) ≡ Some (negsuc 0)
unfolding scale
product_cut = refl

-- 1 div 3, with six decimals, with none, with two and with nine
third : quotient 6 (Some (pos 1000000)) (Some (pos 3000000)) ≡ Some (pos 333333)
unfolding scale
third = refl

third_whole : quotient 0 (Some (pos 1)) (Some (pos 3)) ≡ Some (pos 0)
unfolding scale
third_whole = refl

third_in_hundredths : quotient 2 (Some (pos 100)) (Some (pos 300)) ≡ Some (pos 33)
unfolding scale
third_in_hundredths = refl

third_in_billionths : quotient 9 (Some (pos 1000000000)) (Some (pos 3000000000)) ≡ Some (pos 333333333)
unfolding scale
third_in_billionths = refl

-- with two decimals 1.239 times 1 is 1.23, and 0.05 times 0.05 is 0
third_decimal_dropped : printed 2 (product 2 (read_at 2 (codes "1.239")) (read_at 2 (codes "1"))) ≡ codes "1.23"
unfolding scale digits
third_decimal_dropped = refl

small_product : printed 2 (product 2 (read_at 2 (codes "0.05")) (read_at 2 (codes "0.05"))) ≡ codes "0"
unfolding scale digits
small_product = refl

-- with none 2.9 and 1 are 3
whole_sum : printed 0 (sum (read_at 0 (codes "2.9")) (read_at 0 (codes "1"))) ≡ codes "3"
unfolding scale digits
whole_sum = refl

-- with nine 999999999.999999999 is the greatest number
greatest : read_at 9 (codes "999999999.999999999") ≡ Some (pos 999999999999999999)
unfolding scale
greatest = refl

past_the_greatest : sum (read_at 9 (codes "999999999.999999999")) (read_at 9 (codes "0.000000001")) ≡ None
unfolding scale
past_the_greatest = refl

by_zero : quotient 6 (Some (pos 1)) (Some (pos 0)) ≡ None
by_zero = refl

-- -7 mod 2
sign_of_dividend : remainder (Some (negsuc 6999999)) (Some (pos 2000000)) ≡ Some (negsuc 999999)
sign_of_dividend = refl

-- -2.5
half_up : rounded 6 (Some (negsuc 2499999)) ≡ Some (negsuc 1999999)
unfolding scale
half_up = refl

floor_down : floor_of 6 (Some (negsuc 2499999)) ≡ Some (negsuc 2999999)
unfolding scale
floor_down = refl

ceiling_up : ceiling_of 6 (Some (negsuc 2499999)) ≡ Some (negsuc 1999999)
unfolding scale
ceiling_up = refl

ordered : order_of (Some (negsuc 4)) (Some (pos 0)) ≡ Some Less
ordered = refl

seventh_dropped : read_at 6 (codes "1.0000009") ≡ Some (pos 1000000)
unfolding scale
seventh_dropped = refl

blanks_dropped : read_at 6 (32 ∷ 9 ∷ 45 ∷ 46 ∷ 53 ∷ 10 ∷ []) ≡ Some (negsuc 499999)
unfolding scale
blanks_dropped = refl

no_exponent : read_at 6 (codes "1e2") ≡ None
no_exponent = refl

no_plus : read_at 6 (codes "+1") ≡ None
no_plus = refl

no_digit : read_at 6 (codes "-.") ≡ None
no_digit = refl

tenth : printed 6 (Some (pos 100000)) ≡ codes "0.1"
unfolding scale digits
tenth = refl

minus_small : printed 6 (Some (negsuc 0)) ≡ codes "-0.000001"
unfolding scale digits
minus_small = refl

zero_printed : printed 6 (Some (pos 0)) ≡ codes "0"
unfolding scale digits
zero_printed = refl
