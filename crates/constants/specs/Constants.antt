-- Which number each bit pattern is that stands in a definition: one table, proved by computation (`constants` in
-- proofs/Constants). Definitions only.
use Rattle.std.specs.Prelude.{ℕ, ◌+◌, ◌*◌, ◌^◌, ◌-◌, ◌≡◌, false, Float}
use Rattle.std.specs.Float.{binary32}
use Rattle.std.specs.Float.Ieee.{round}
use Rattle.numbers.specs.Rounded.{f32}

-- the f32 nearest to n / d, the even one on a tie: how a decimal is read
abbrev pub nearest_f32 : ℕ → ℕ → Float
nearest_f32 n d = round binary32 false n d

pub record Constants : Type 0 where
  pub zero : f32 0 ≡ nearest_f32 0 1
  pub half : f32 0x3f000000 ≡ nearest_f32 1 2
  pub one : f32 0x3f800000 ≡ nearest_f32 1 1
  -- 1.5: the plain path's widest circumradius, in radii
  pub one_and_a_half : f32 0x3fc00000 ≡ nearest_f32 15 10
  pub two : f32 0x40000000 ≡ nearest_f32 2 1
  -- 2.5: of the estimate
  pub two_and_a_half : f32 0x40200000 ≡ nearest_f32 25 10
  pub three : f32 0x40400000 ≡ nearest_f32 3 1
  pub four : f32 0x40800000 ≡ nearest_f32 4 1
  pub six : f32 0x40c00000 ≡ nearest_f32 6 1
  -- the largest factor of a cell
  pub sixteen : f32 0x41800000 ≡ nearest_f32 16 1
  -- the farthest coordinate
  pub ten_thousand : f32 0x461c4000 ≡ nearest_f32 10000 1
  -- the largest f32: the farthest component of a normal
  pub largest : f32 0x7f7fffff ≡ nearest_f32 ((2 ^ 24 - 1) * 2 ^ 104) 1
  -- 0.001 and 1,000: the least and the largest radius
  pub thousandth : f32 0x3a83126f ≡ nearest_f32 1 1000
  pub thousand : f32 0x447a0000 ≡ nearest_f32 1000 1
  -- 1,000,000: the largest threshold and edge factor
  pub million : f32 0x49742400 ≡ nearest_f32 1000000 1
  -- 0.1: the estimate without another point, and the default quality threshold
  pub tenth : f32 0x3dcccccd ≡ nearest_f32 1 10
  -- 1e-6: radii that are dropped, and the plain path's cross product
  pub millionth : f32 0x358637bd ≡ nearest_f32 1 1000000
  -- 1e-10: a degenerate area, a ratio's divisor, a pivot's edge
  pub tiny : f32 0x2edbe6ff ≡ nearest_f32 1 (10 ^ 10)
  -- the default radii 0.05, 0.15 and 0.2
  pub twentieth : f32 0x3d4ccccd ≡ nearest_f32 5 100
  pub three_twentieths : f32 0x3e19999a ≡ nearest_f32 15 100
  pub fifth : f32 0x3e4ccccd ≡ nearest_f32 2 10
  -- the default percentiles 0.25, 0.5, 0.75 and 0.9
  pub quarter : f32 0x3e800000 ≡ nearest_f32 25 100
  pub three_quarters : f32 0x3f400000 ≡ nearest_f32 75 100
  pub nine_tenths : f32 0x3f666666 ≡ nearest_f32 9 10
  -- 1e-8: the default least area
  pub hundred_millionth : f32 0x322bcc77 ≡ nearest_f32 1 (10 ^ 8)
  -- pi
  pub pi : f32 0x40490fdb ≡ nearest_f32 314159265358979 (10 ^ 14)
  -- musl's H and L, which add up to half of pi
  pub H : f32 0x3fc90fda ≡ nearest_f32 15707962513 (10 ^ 10)
  pub L : f32 0x33a22168 ≡ nearest_f32 75497894159 (10 ^ 18)
  -- the scope's p0, -p1, -p2 and -q1
  pub p0 : f32 0x3e2aaa75 ≡ nearest_f32 16666586697 (10 ^ 11)
  pub p1 : f32 0x3d2f13ba ≡ nearest_f32 42743422091 (10 ^ 12)
  pub p2 : f32 0x3c0dd36b ≡ nearest_f32 86563630030 (10 ^ 13)
  pub q1 : f32 0x3f34e5ae ≡ nearest_f32 70662963390 (10 ^ 11)
  -- 2 ^ -26: up to here the arc cosine is H
  pub near_zero : f32 0x32800000 ≡ nearest_f32 1 (2 ^ 26)
  -- what is measured by squares, see `thin`
  pub low_square : f32 0x21800000 ≡ nearest_f32 1 (2 ^ 60)
  pub high_length : f32 0x4c800000 ≡ nearest_f32 (2 ^ 26) 1
  pub high_square : f32 0x5d800000 ≡ nearest_f32 (2 ^ 60) 1
  pub low_bound : f32 0x3b000000 ≡ nearest_f32 1 (2 ^ 9)
  pub low_limit : f32 0x35800000 ≡ nearest_f32 1 (2 ^ 20)
  -- the least square of an edge there, and in `long_edges` and `cosines`
  pub low_edge : f32 0x2b800000 ≡ nearest_f32 1 (2 ^ 40)
  -- the squares of the larger ratios of edges, and what they take off the limit, see `cosines`
  pub ratio_16 : f32 0x43800000 ≡ nearest_f32 (16 ^ 2) 1
  pub ratio_64 : f32 0x45800000 ≡ nearest_f32 (64 ^ 2) 1
  pub ratio_256 : f32 0x47800000 ≡ nearest_f32 (256 ^ 2) 1
  pub margin_16 : f32 0x37c00000 ≡ nearest_f32 12 (2 ^ 19)
  pub margin_64 : f32 0x38f00000 ≡ nearest_f32 60 (2 ^ 19)
  pub margin_256 : f32 0x39fc0000 ≡ nearest_f32 252 (2 ^ 19)
  -- 1.00001: from here on no score reaches a threshold, see `euler`
  pub out_of_reach : f32 0x3f800054 ≡ nearest_f32 100001 100000
  -- how many times as long the edges of needles are, and their angles 0.21, 0.13, 0.07 and 0.04, see `needle_angles`
  pub times_10 : f32 0x41200000 ≡ nearest_f32 10 1
  pub times_32 : f32 0x42000000 ≡ nearest_f32 32 1
  pub times_64 : f32 0x42800000 ≡ nearest_f32 64 1
  pub times_128 : f32 0x43000000 ≡ nearest_f32 128 1
  pub angle_10 : f32 0x3e570a3d ≡ nearest_f32 21 100
  pub angle_16 : f32 0x3e051eb8 ≡ nearest_f32 13 100
  pub angle_32 : f32 0x3d8f5c29 ≡ nearest_f32 7 100
  pub angle_128 : f32 0x3d23d70a ≡ nearest_f32 4 100
  -- about 1e-12, and the next f32: squares of the plain path's cross product, see `plain`
  pub thin : f32 0x2b8cbccd ≡ nearest_f32 9223373 (2 ^ 63)
  pub thin_next : f32 0x2b8cbcce ≡ nearest_f32 9223374 (2 ^ 63)
  -- of the starred cases: the next f32 above 10,000, and the radii 0.5000007 and 0.5000014
  pub beyond_ten_thousand : f32 0x461c4001 ≡ nearest_f32 (10000 * 2 ^ 10 + 1) (2 ^ 10)
  pub second_radius : f32 0x3f00000c ≡ nearest_f32 5000007 (10 ^ 7)
  pub third_radius : f32 0x3f000017 ≡ nearest_f32 5000014 (10 ^ 7)
