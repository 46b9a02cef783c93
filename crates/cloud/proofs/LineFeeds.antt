-- Lines are lines: what is read as a line takes one line feed, its last byte. So an accepted file has a line feed for
-- the radius and one for each point, and a malformed line's number is at most one more than the file's line feeds.
-- Assumes nothing.
use mathlib.Core.Path.{◌≡◌, refl, sym, ap, ◌∙◌, subst}
use mathlib.Core.Bool.{Bool, true, false, cond}
use mathlib.Core.List.{List, [], ◌∷◌}
use Prim.Native.Nat.{ℕ, zero, suc, ◌+◌, ◌≤◌}
use native.Mathlib.Omega.{arith}
use borrow.Author.Tests.{eqb-true, leb-true, ne_eqb}
use lib.Dec.{T, eqb, leb}
use lib.ListN.{length, take, drop}
use lib.Ieee.{Float}
use Rattle.decimals.specs.Decimal.{decimal}
use Rattle.numerals.specs.Format.{Parsed, parsed, malformed, then, starts_with, is_digit, digits, few, digits_value, fraction, unsigned_number, number}
use Rattle.cloud_lines.specs.Format.{field, triple, point_fields}
use Rattle.cloud.specs.Format.{PointLines, good, wrong, point_ahead, lines_of_points, body, File, cloud, malformed_line, under, file}
use Rattle.cloud_lines.specs.declared.line.Point.{Point}
use Rattle.numerals.proofs.Bytes.{both}
use Rattle.numerals.proofs.Shorter.{Below}
use Rattle.cloud_lines.proofs.Shorter.{point_below}

-- how many line feeds there are
unfoldable pub feeds : List ℕ → ℕ
feeds [] = 0
feeds (b ∷ bs) = cond (eqb b 10) (suc (feeds bs)) (feeds bs)

feeds_other : (b : ℕ) (bs : List ℕ) → (b ≡ 10 → ⊥) → feeds (b ∷ bs) ≡ feeds bs
unfolding feeds
feeds_other b bs h = rw (ne_eqb b 10 h)

-- ---- bytes that are no line feed
digits_feeds : (n : ℕ) (bs : List ℕ) → n ≤ digits bs → feeds bs ≡ feeds (drop n bs)
unfolding digits
digits_feeds zero bs h = refl
digits_feeds (suc n) [] h = absurd (omega arith)
digits_feeds (suc n) (b ∷ bs) h = go (is_digit b) refl h (λ k. digits_feeds n bs k)
  where
    go : (t : Bool) → is_digit b ≡ t → suc n ≤ cond t (suc (digits bs)) 0 → (n ≤ digits bs → feeds bs ≡ feeds (drop n bs)) → feeds (b ∷ bs) ≡ feeds (drop n bs)
    go true e h rec = let low : 48 ≤ b = leb-true 48 b (both (leb 48 b) (leb b 57) e).0 in feeds_other b bs (λ (q : b ≡ 10). omega arith) ∙ rec (omega arith)
    go false e h rec = absurd (omega arith)

starts_feeds : (c : ℕ) (bs : List ℕ) → (c ≡ 10 → ⊥) → starts_with c bs ≡ true → feeds bs ≡ feeds (drop 1 bs)
unfolding starts_with
starts_feeds c [] h e = refl
starts_feeds c (b ∷ bs) h e = let same : b ≡ c = eqb-true b c e in feeds_other b bs (λ (q : b ≡ 10). h (sym same ∙ q))

feed_first : (bs : List ℕ) → starts_with 10 bs ≡ true → feeds bs ≡ suc (feeds (drop 1 bs))
unfolding starts_with feeds
feed_first [] e = absurd (subst T (sym e) tt)
feed_first (b ∷ bs) e = rw e

-- ---- what is parsed takes k line feeds
abbrev Takes : {A : Type 0} → ℕ → ℕ → Parsed A → Type 0
Takes n k (parsed a rest) = n ≡ k + feeds rest
Takes n k malformed = Unit

takes_cond : {A : Type 0} (n k : ℕ) (t : Bool) (p q : Parsed A) → (t ≡ true → Takes n k p) → (t ≡ false → Takes n k q) → Takes n k (cond t p q)
takes_cond n k true p q a b = a refl
takes_cond n k false p q a b = b refl

takes_more : {A : Type 0} (n j k m : ℕ) (p : Parsed A) → n ≡ j + m → Takes m k p → Takes n (j + k) p
takes_more n j k m (parsed a rest) e h = omega arith
takes_more n j k m malformed e h = tt

takes_then : {A B : Type 0} (n j k : ℕ) (p : Parsed A) (f : A → List ℕ → Parsed B) → Takes n j p → ((a : A) (rest : List ℕ) → Takes (feeds rest) k (f a rest))
    → Takes n (j + k) (then p f)
unfolding then
takes_then n j k (parsed a rest) f e go = takes_more n j k (feeds rest) (f a rest) e (go a rest)
takes_then n j k malformed f e go = tt

fraction_takes : (negative : Bool) (units : ℕ) (bs : List ℕ) → Takes (feeds bs) 0 (fraction negative units bs)
unfolding fraction
fraction_takes negative units bs =
    let places = digits (drop 1 bs) in
    let some = parsed (decimal negative units (digits_value 0 (take places (drop 1 bs))) places) (drop places (drop 1 bs)) in
    takes_cond (feeds bs) 0 (starts_with 46 bs) (cond (few places 6) some malformed) (parsed (decimal negative units 0 0) bs)
    (λ dot. takes_cond (feeds bs) 0 (few places 6) some malformed
    (λ _. let a = starts_feeds 46 bs (λ (q : 46 ≡ 10). omega arith) dot in let b = digits_feeds places (drop 1 bs) (omega arith) in omega arith) (λ _. tt))
    (λ _. omega arith)

magnitude_takes : (negative : Bool) (bs : List ℕ) → Takes (feeds bs) 0 (unsigned_number negative bs)
unfolding unsigned_number
magnitude_takes negative bs =
    let count = digits bs in
    let e : feeds bs ≡ feeds (drop count bs) = digits_feeds count bs (omega arith) in
    takes_cond (feeds bs) 0 (few count 5) (fraction negative (digits_value 0 (take count bs)) (drop count bs)) malformed
    (λ _. subst (λ (n : ℕ). Takes n 0 (fraction negative (digits_value 0 (take count bs)) (drop count bs))) (sym e)
    (fraction_takes negative (digits_value 0 (take count bs)) (drop count bs))) (λ _. tt)

number_takes : (bs : List ℕ) → Takes (feeds bs) 0 (number bs)
unfolding number
number_takes bs =
    takes_cond (feeds bs) 0 (starts_with 45 bs) (unsigned_number true (drop 1 bs)) (unsigned_number false bs)
    (λ minus. subst (λ (n : ℕ). Takes n 0 (unsigned_number true (drop 1 bs))) (sym (starts_feeds 45 bs (λ (q : 45 ≡ 10). omega arith) minus))
    (magnitude_takes true (drop 1 bs)))
    (λ _. magnitude_takes false bs)

-- a comma takes none, a line feed one
comma_takes : (bs : List ℕ) → Takes (feeds bs) 0 (field 44 bs)
unfolding field
comma_takes bs =
    takes_then (feeds bs) 0 0 (number bs) _ (number_takes bs) (λ v rest. takes_cond (feeds rest) 0 (starts_with 44 rest) (parsed v (drop 1 rest)) malformed
    (λ e. let h = starts_feeds 44 rest (λ (q : 44 ≡ 10). omega arith) e in omega arith) (λ _. tt))

pub end_takes : (bs : List ℕ) → Takes (feeds bs) 1 (field 10 bs)
unfolding field
end_takes bs =
    takes_then (feeds bs) 0 1 (number bs) _ (number_takes bs) (λ v rest. takes_cond (feeds rest) 1 (starts_with 10 rest) (parsed v (drop 1 rest)) malformed
    (λ e. let h = feed_first rest e in omega arith) (λ _. tt))

triple_takes : (last k : ℕ) → ((bs : List ℕ) → Takes (feeds bs) k (field last bs)) → (bs : List ℕ) → Takes (feeds bs) (0 + (0 + (k + 0))) (triple last bs)
unfolding triple
triple_takes last k ends bs =
    takes_then (feeds bs) 0 (0 + (k + 0)) (field 44 bs) _ (comma_takes bs) (λ x r. takes_then (feeds r) 0 (k + 0) (field 44 r) _ (comma_takes r) (λ y r'.
    takes_then (feeds r') k 0 (field last r') _ (ends r') (λ z rest. omega arith)))

pub point_takes : (bs : List ℕ) → Takes (feeds bs) 1 (point_fields bs)
unfolding point_fields
point_takes bs =
    takes_then (feeds bs) 0 1 (triple 44 bs) _ (triple_takes 44 0 comma_takes bs)
    (λ p r. takes_then (feeds r) 1 0 (triple 10 r) _ (triple_takes 10 1 end_takes r) (λ n rest. omega arith))

-- ---- the file
-- as many line feeds as points, or a malformed line at most one further
unfoldable Fed : ℕ → PointLines → Type 0
Fed n (good ps) = n ≡ length ps
Fed n (wrong line) = line ≤ suc n

lines_fed : (fuel : ℕ) (bs : List ℕ) → length bs ≤ fuel → Fed (feeds bs) (lines_of_points fuel bs)
unfolding lines_of_points feeds Fed point_ahead
lines_fed zero [] h = refl
lines_fed zero (b ∷ bs) h = absurd (omega arith)
lines_fed (suc fuel) [] h = refl
lines_fed (suc fuel) (b ∷ bs) h = go (point_fields (b ∷ bs)) (point_takes (b ∷ bs)) (point_below (b ∷ bs)) (λ rest k. lines_fed fuel rest k)
  where
    step : (n : ℕ) (p : Point) (l : PointLines) → Fed n l → Fed (suc n) (point_ahead p l)
    step n p (good ps) e = ap suc e
    step n p (wrong line) e = omega arith

    go : (q : Parsed Point) → Takes (feeds (b ∷ bs)) 1 q → Below (length (b ∷ bs)) q
        → ((rest : List ℕ) → length rest ≤ fuel → Fed (feeds rest) (lines_of_points fuel rest))
        → Fed (feeds (b ∷ bs)) (elim q [ parsed p rest ↦ point_ahead p (lines_of_points fuel rest) | malformed ↦ wrong 1 ])
    go (parsed p rest) t s rec = let e : suc (feeds rest)
        ≡ feeds (b ∷ bs) = omega arith in subst (λ (n : ℕ). Fed n (point_ahead p (lines_of_points fuel rest))) e
        (step (feeds rest) p (lines_of_points fuel rest) (rec rest (omega arith)))
    go malformed t s rec = omega arith

unfoldable pub FedFile : ℕ → File → Type 0
FedFile n (cloud radius ps) = n ≡ suc (length ps)
FedFile n (malformed_line line) = line ≤ suc n

pub file_fed : (bs : List ℕ) → FedFile (feeds bs) (file bs)
unfolding file FedFile body Fed under
file_fed bs = go (field 10 bs) (end_takes bs)
  where
    step : (radius : Float) (n : ℕ) (l : PointLines) → Fed n l → FedFile (suc n) (under radius l)
    step radius n (good ps) e = ap suc e
    step radius n (wrong line) e = omega arith

    go : (q : Parsed Float) → Takes (feeds bs) 1 q → FedFile (feeds bs) (elim q [ parsed radius rest ↦ under radius (body rest) | malformed ↦ malformed_line 1 ])
    go (parsed radius rest) t = let e : suc (feeds rest)
        ≡ feeds bs = omega arith in subst (λ (n : ℕ). FedFile n (under radius (body rest))) e
        (step radius (feeds rest) (body rest) (lines_fed (length rest) rest (omega arith)))
    go malformed t = omega arith
