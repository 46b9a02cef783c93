-- The table of constants, by computation. Assumes nothing.
use mathlib.Core.Path.{refl}
use lib.Count.{count_trailing_zeros}
use lib.Ieee.{span, climb, size, odd, units, round, of_fields, of_bits}
use Rattle.constants.specs.Constants.{Constants}

pub constants : Constants
unfolding count_trailing_zeros span climb size odd units round of_fields of_bits
constants = record {
  zero = refl;
  half = refl;
  one = refl;
  one_and_a_half = refl;
  two = refl;
  two_and_a_half = refl;
  three = refl;
  four = refl;
  six = refl;
  sixteen = refl;
  ten_thousand = refl;
  largest = refl;
  thousandth = refl;
  thousand = refl;
  million = refl;
  tenth = refl;
  millionth = refl;
  tiny = refl;
  twentieth = refl;
  three_twentieths = refl;
  fifth = refl;
  quarter = refl;
  three_quarters = refl;
  nine_tenths = refl;
  hundred_millionth = refl;
  pi = refl;
  H = refl;
  L = refl;
  p0 = refl;
  p1 = refl;
  p2 = refl;
  q1 = refl;
  near_zero = refl;
  low_square = refl;
  high_length = refl;
  high_square = refl;
  low_bound = refl;
  low_limit = refl;
  low_edge = refl;
  ratio_16 = refl;
  ratio_64 = refl;
  ratio_256 = refl;
  margin_16 = refl;
  margin_64 = refl;
  margin_256 = refl;
  out_of_reach = refl;
  times_10 = refl;
  times_32 = refl;
  times_64 = refl;
  times_128 = refl;
  angle_10 = refl;
  angle_16 = refl;
  angle_32 = refl;
  angle_128 = refl;
  thin = refl;
  thin_next = refl;
  beyond_ten_thousand = refl;
  second_radius = refl;
  third_radius = refl;
}
