-- Arc cosine as musl's `acosf` has it, case by case, each operation rounded once. Definitions only.
use Rattle.std.specs.Prelude.{◌-◌, ◌%◌, cond, Float}
use Rattle.std.specs.Float.{nan, binary32}
use Rattle.std.specs.Float.Ieee.{neg, lt, le, eq, is_nan, to_bits}
use Rattle.numbers.specs.Rounded.{f32, ◌⊕◌, ◌⊖◌, ◌⊗◌, ◌⊘◌}
use Rattle.numbers.specs.Root.{root}

abbrev half : Float
half = f32 0x3f000000

abbrev one : Float
one = f32 0x3f800000

abbrev two : Float
two = f32 0x40000000

-- the scope's H and L: half of pi is H + L
abbrev H : Float
H = f32 0x3fc90fda

abbrev L : Float
L = f32 0x33a22168

-- the scope's R, with its coefficients p0, p1, p2 and q1; the last three are negative
unfoldable pub R : Float → Float
R z =
    z ⊗ (f32 0x3e2aaa75 ⊕ z ⊗ (neg (f32 0x3d2f13ba) ⊕ z ⊗ neg (f32 0x3c0dd36b))) ⊘ (one ⊕ z ⊗ neg (f32 0x3f34e5ae))

-- v without its sign; -0 may stay, which compares as 0
unfoldable pub abs : Float → Float
abs v = cond (lt v (f32 0)) (neg v) v

-- s with its low 12 bits cleared
unfoldable pub high_part : Float → Float
high_part s = cond (is_nan s) s (f32 (to_bits binary32 s - to_bits binary32 s % 4096))

-- |v| below 0.5
unfoldable pub acos_middle : Float → Float
acos_middle v = H ⊖ (v ⊖ (L ⊖ v ⊗ R (v ⊗ v)))

-- v at most -0.5
unfoldable pub acos_low : Float → Float
acos_low v =
    let z = (one ⊕ v) ⊗ half in
    let s = root z in
    two ⊗ (H ⊖ (s ⊕ (R z ⊗ s ⊖ L)))

-- v at least 0.5
unfoldable pub acos_high : Float → Float
acos_high v =
    let z = (one ⊖ v) ⊗ half in
    let s = root z in
    let d = high_part s in
    let c = (z ⊖ d ⊗ d) ⊘ (s ⊕ d) in
    two ⊗ (d ⊕ (R z ⊗ s ⊕ c))

-- v neither 1 nor -1; beyond them there is no arc cosine
unfoldable pub acos_inside : Float → Float
acos_inside v =
    cond (lt one (abs v)) nan
    (cond (le (abs v) (f32 0x32800000)) H
    (cond (lt (abs v) half) (acos_middle v)
    (cond (le v (neg half)) (acos_low v) (acos_high v))))

-- the scope's arc cosine
unfoldable pub acos : Float → Float
acos v =
    cond (is_nan v) nan
    (cond (eq v one) (f32 0)
    (cond (eq v (neg one)) (two ⊗ H)
    (acos_inside v)))
