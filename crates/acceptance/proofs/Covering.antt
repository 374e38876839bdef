-- In an order with a greatest type, where every two types that one type covers have a meet, every two types have one. Take x and y below z.
-- If one of them is z, the other is their meet. Else x is below x' and y below y', two types that z covers. These have a meet w; x and w,
-- both below x', have a meet u; and u and y, both below y', have a meet, which is the meet of x and y.
use Prim.Native.Nat.{ℕ, zero, suc, ◌+◌, ◌-◌, ◌^◌, ◌<◌, ◌≤◌}
use mathlib.Core.Path.{◌≡◌, refl, sym, ap, ap₂, subst, ◌∙◌}
use mathlib.Core.Bool.{Bool, true, false, not, ◌&&◌, ◌||◌, and-false}
use mathlib.Core.List.{List}
use mathlib.Core.Logic.{◌⊎◌, inl, inr, ⊎_elim}
use native.Mathlib.Nat.{not-suc-le-zero}
use native.Mathlib.Omega.{arith}
use lib.ListN.{get_or}
use lib.Bits.{bit_and, bit_or, and_comm, and_self, and_le_l}
use lib.Dec.{eqb}
use borrow.Author.Count.{below_more}
use borrow.Author.Tests.{eq-eqb, ne_eqb, eqb-true, not-true}
use Rattle.lattice.specs.Table.{every, found}
use Rattle.lattice.specs.Words.{bit, without, strictly, Under, holder, word_bound, all_found, Sided, Inside, Lower, Covered, BoundsWith, BoundsWithin}
use Rattle.lattice.proofs.Every.{and_left, and_right, every-all, every-none, every-fails, below_or_not, true-not-false, found_some, last-passes, last_found}
use Rattle.lattice.proofs.BoundLaws.{bound-turned}
use Rattle.lattice.proofs.Bits.{bits-same, no-bit, and-bit, without-bit, cleared-bit, cleared-less, one_bit, or-bit}

pub strictly-under : (ws : List ℕ) (i j : ℕ) → bit (strictly ws i) j ≡ true → Under ws i j
strictly-under ws i j e =
    let both = sym (cleared-bit (get_or ws i 0) i j) ∙ e in
    record {
      below = and_left (bit (get_or ws i 0) j) (not (eqb j i)) both;
      apart = λ q. true-not-false (eqb j i) (eq-eqb j i q) (not-true (eqb j i) (and_right (bit (get_or ws i 0) j) (not (eqb j i)) both));
    }

pub under-strictly : (ws : List ℕ) (i j : ℕ) → Under ws i j → bit (strictly ws i) j ≡ true
under-strictly ws i j u = cleared-bit (get_or ws i 0) i j ∙ rw (u.below, ne_eqb j i u.apart)

module _ (n : ℕ) (ws : List ℕ) (few : n ≤ 64) (low : Lower n ws) where
  -- the bits that the words of a and b share are the word of a type
  abbrev Meets : ℕ → ℕ → Type 0
  Meets a b = (c : ℕ) × (c < n) × (get_or ws c 0 ≡ bit_and (get_or ws a 0) (get_or ws b 0))

  meets-found : (a b : ℕ) → Meets a b → found (word_bound n ws a b) ≡ true
  unfolding holder
  meets-found a b (c, l, e) = last_found (λ k. eqb (get_or ws k 0) (bit_and (get_or ws a 0) (get_or ws b 0))) n c l (eq-eqb _ _ e)

  found-meets : (a b : ℕ) → found (word_bound n ws a b) ≡ true → Meets a b
  unfolding holder
  found-meets a b h =
      let (c, e) = found_some (word_bound n ws a b) h in
      let (l, f) = last-passes (λ k. eqb (get_or ws k 0) (bit_and (get_or ws a 0) (get_or ws b 0))) n c e in
      (c, l, eqb-true _ _ f)

  -- the word of a type below z has nothing that z's has not
  below-common : (z x : ℕ) → z < n → x < n → bit (get_or ws z 0) x ≡ true → bit_and (get_or ws x 0) (get_or ws z 0) ≡ get_or ws x 0
  below-common z x lz lx e =
      bits-same 64 _ _ (omega (arith, and_le_l (get_or ws x 0) (get_or ws z 0), low.small x lx)) (low.small x lx) λ k l.
      and-bit (get_or ws x 0) (get_or ws z 0) k ∙ go k l (bit (get_or ws x 0) k) refl
    where
      go : (k : ℕ) → k < 64 → (b : Bool) → bit (get_or ws x 0) k ≡ b → bit (get_or ws x 0) k && bit (get_or ws z 0) k ≡ bit (get_or ws x 0) k
      go k l true f = rw (f, low.chain z x k lz lx (low.sided.inside x k lx l f) e f)
      go k l false f = rw f

  -- what is below a type strictly below z is strictly below z
  pub below-strictly : (z x : ℕ) → z < n → x < n → bit (get_or ws z 0) x ≡ true → (x ≡ z → ⊥) → bit_and (get_or ws x 0) (strictly ws z) ≡ get_or ws x 0
  below-strictly z x lz lx e apart =
      bits-same 64 _ _ (omega (arith, and_le_l (get_or ws x 0) (strictly ws z), low.small x lx)) (low.small x lx) (λ k l.
      and-bit (get_or ws x 0) (strictly ws z) k ∙ go k l (bit (get_or ws x 0) k) refl)
    where
      go : (k : ℕ) → k < 64 → (b : Bool) → bit (get_or ws x 0) k ≡ b → bit (get_or ws x 0) k && bit (strictly ws z) k ≡ bit (get_or ws x 0) k
      go k l true f =
          let off : eqb k z ≡ false =
          ne_eqb k z (λ q. apart (low.sided.anti x z lx lz (ap (bit (get_or ws x 0)) (sym q) ∙ f) e)) in
          rw (f, cleared-bit (get_or ws z 0) z k, low.chain z x k lz lx (low.sided.inside x k lx l f) e f, off)
      go k l false f = rw f

  -- strictly below is less
  below_less : (z x : ℕ) → z < n → x < n → bit (get_or ws z 0) x ≡ true → (x ≡ z → ⊥) → get_or ws x 0 < get_or ws z 0
  below_less z x lz lx e apart =
      omega (
        arith,
        below-strictly z x lz lx e apart,
        and_comm (get_or ws x 0) (strictly ws z),
        and_le_l (strictly ws z) (get_or ws x 0),
        cleared-less (get_or ws z 0) z (low.sided.own z lz),
      )

  -- every two types below a type whose word is below k have a meet
  abbrev MeetsUnder : ℕ → Type 0
  MeetsUnder k = (z x y : ℕ) → z < n → x < n → y < n → bit (get_or ws z 0) x ≡ true → bit (get_or ws z 0) y ≡ true → get_or ws z 0 < k → Meets x y

  -- where the bits that two words share are the word of c, both words have the bit of c
  common-own : (c a b : ℕ) → c < n → get_or ws c 0 ≡ bit_and (get_or ws a 0) (get_or ws b 0) → (bit (get_or ws a 0) c && bit (get_or ws b 0) c) ≡ true
  common-own c a b l e = sym (and-bit (get_or ws a 0) (get_or ws b 0) c) ∙ ap (λ (v : ℕ). bit v c) (sym e) ∙ low.sided.own c l

  four : (a b c d : Bool) → (a ≡ true → b ≡ true) → (d ≡ true → c ≡ true) → ((a && (b && c)) && d) ≡ (a && d)
  four false b c d f g = refl
  four true b c true f g = rw (f refl, g refl)
  four true b c false f g = and-false (b && c)

  -- with x below a and y below b: what x, a, b and y have in common is what x and y have in common
  common-outer : (x y a b w u : ℕ) → x < n → y < n → a < n → b < n → bit (get_or ws a 0) x ≡ true → bit (get_or ws b 0) y ≡ true
      → get_or ws w 0 ≡ bit_and (get_or ws a 0) (get_or ws b 0) → get_or ws u 0 ≡ bit_and (get_or ws x 0) (get_or ws w 0)
      → bit_and (get_or ws u 0) (get_or ws y 0) ≡ bit_and (get_or ws x 0) (get_or ws y 0)
  common-outer x y a b w u lx ly la lb a_x b-y is-w is-u =
      bits-same 64 (bit_and (get_or ws u 0) (get_or ws y 0)) (bit_and (get_or ws x 0) (get_or ws y 0))
      (omega (arith, and_le_l (get_or ws u 0) (get_or ws y 0), is-u, and_le_l (get_or ws x 0) (get_or ws w 0), low.small x lx))
      (omega (arith, and_le_l (get_or ws x 0) (get_or ws y 0), low.small x lx)) λ i l.
      and-bit (get_or ws u 0) (get_or ws y 0) i ∙
      ap (λ (v : Bool). v && bit (get_or ws y 0) i)
      (ap (λ (v : ℕ). bit v i) is-u ∙ and-bit (get_or ws x 0) (get_or ws w 0) i ∙
      ap (λ (v : Bool). bit (get_or ws x 0) i && v) (ap (λ (v : ℕ). bit v i) is-w ∙ and-bit (get_or ws a 0) (get_or ws b 0) i)) ∙
      four (bit (get_or ws x 0) i) (bit (get_or ws a 0) i) (bit (get_or ws b 0) i) (bit (get_or ws y 0) i)
      (λ e. low.chain a x i la lx (low.sided.inside x i lx l e) a_x e)
      (λ e. low.chain b y i lb ly (low.sided.inside y i ly l e) b-y e) ∙
      sym (and-bit (get_or ws x 0) (get_or ws y 0) i)

  -- x and y have a meet: it comes from the meet w of a and b, the meet of x and w, and the meet of this and y
  meets-through : (k x y a b : ℕ) → x < n → y < n → a < n → b < n → bit (get_or ws a 0) x ≡ true → bit (get_or ws b 0) y ≡ true
      → get_or ws a 0 < k → get_or ws b 0 < k → MeetsUnder k → Meets a b → Meets x y
  meets-through k x y a b lx ly la lb a_x b-y ha hb next (w, lw, is-w) =
      last_step
      (next a x w la lx lw a_x (and_left (bit (get_or ws a 0) w) (bit (get_or ws b 0) w) (common-own w a b lw is-w)) ha)
    where
      last_step : Meets x w → Meets x y
      last_step (u, lu, is-u) =
          let b-u : bit (get_or ws b 0) u ≡ true =
          low.chain b w u lb lw lu (and_right (bit (get_or ws a 0) w) (bit (get_or ws b 0) w) (common-own w a b lw is-w))
          (and_right (bit (get_or ws x 0) u) (bit (get_or ws w 0) u) (common-own u x w lu is-u)) in
          let r : Meets u y = next b u y lb lu ly b-u b-y hb in
          (r.0, r.1, r.2 ∙ common-outer x y a b w u lx ly la lb a_x b-y is-w is-u)

  module _ (word : ℕ → ℕ) (covers : (z : ℕ) → z < n → Covered n ws z (word z)) where
    module _ (pairs : (z a b : ℕ) → z < n → a < 64 → b < 64 → bit (word z) a ≡ true → bit (word z) b ≡ true → found (word_bound n ws a b) ≡ true) where
      -- the types below a type that has a word below k
      meets-between : (k z x y : ℕ) → z < n → x < n → y < n → get_or ws z 0 < suc k → MeetsUnder k
          → (c : ℕ) × (c < n) × (bit (word z) c ≡ true) × (bit (get_or ws c 0) x ≡ true)
          → (c : ℕ) × (c < n) × (bit (word z) c ≡ true) × (bit (get_or ws c 0) y ≡ true) → Meets x y
      meets-between k z x y lz lx ly h next (a, la, ca, a_x) (b, lb, cb, b-y) =
          let under-a : get_or ws a 0 < get_or ws z 0 = below_less z a lz la ((covers z lz).part a (omega arith) ca).below ((covers z lz).part a (omega arith) ca).apart in
          let under-b : get_or ws b 0 < get_or ws z 0 = below_less z b lz lb ((covers z lz).part b (omega arith) cb).below ((covers z lz).part b (omega arith) cb).apart in
          meets-through k x y a b lx ly la lb a_x b-y (omega arith) (omega arith) next
          (found-meets a b (pairs z a b lz (omega arith) (omega arith) ca cb))

      -- every two types below z have a meet
      meets-below : (k z x y : ℕ) → z < n → x < n → y < n → bit (get_or ws z 0) x ≡ true → bit (get_or ws z 0) y ≡ true → get_or ws z 0 < k → Meets x y
      meets-below zero z x y lz lx ly ex ey h = absurd (not-suc-le-zero h)
      meets-below (suc k) z x y lz lx ly ex ey h = go (meets-below k) (eqb x z) refl (eqb y z) refl where
        go : MeetsUnder k → (a : Bool) → eqb x z ≡ a → (b : Bool) → eqb y z ≡ b → Meets x y
        go next true e b f =
            let q : x ≡ z = eqb-true x z e in
            (y, ly, sym (below-common z y lz ly ey) ∙ and_comm (get_or ws y 0) (get_or ws z 0) ∙ ap (λ (i : ℕ). bit_and (get_or ws i 0) (get_or ws y 0)) (sym q))
        go next false e true f =
            let q : y ≡ z = eqb-true y z f in
            (x, lx, sym (below-common z x lz lx ex) ∙ ap (λ (i : ℕ). bit_and (get_or ws x 0) (get_or ws i 0)) (sym q))
        go next false e false f =
            meets-between k z x y lz lx ly h next
            ((covers z lz).over x lx (record { below = ex; apart = λ q. true-not-false (eqb x z) (eq-eqb x z q) e }))
            ((covers z lz).over y ly (record { below = ey; apart = λ q. true-not-false (eqb y z) (eq-eqb y z q) f }))

      -- every two types have a meet
      pub all_meet : 0 < n → all_found n (word_bound n ws) ≡ true
      unfolding all_found
      all_meet l =
          every-all _ n λ a la.
          every-all _ n λ b lb.
          meets-found a b (meets-below (suc (get_or ws (n - 1) 0)) (n - 1) a b (omega arith) la lb (low.most a la) (low.most b lb) (omega arith))

-- where one pair has no bound, not every two types have one
bound-missing : (n : ℕ) (ws : List ℕ) (a b : ℕ) → a < n → b < n → found (word_bound n ws a b) ≡ false → all_found n (word_bound n ws) ≡ false
unfolding all_found
bound-missing n ws a b la lb e = every-fails _ n a la (every-fails _ n b lb e)

-- a type is its own bound
own-bound : (n : ℕ) (ws : List ℕ) (a : ℕ) → a < n → found (word_bound n ws a a) ≡ true
unfolding holder
own-bound n ws a l = last_found (λ k. eqb (get_or ws k 0) (bit_and (get_or ws a 0) (get_or ws a 0))) n a l (eq-eqb _ _ (sym (and_self (get_or ws a 0))))

-- a bit that is gone from a word with one bit cleared: it was gone before, or it is that one
gone : (w j k : ℕ) → bit (without w (2 ^ j)) k ≡ false → (bit w k ≡ false) ⊎ (k ≡ j)
gone w j k e = go (bit w k) refl (eqb k j) refl where
  go : (a : Bool) → bit w k ≡ a → (b : Bool) → eqb k j ≡ b → (bit w k ≡ false) ⊎ (k ≡ j)
  go false f b g = inl f
  go true f true g = inr (eqb-true k j g)
  go true f false g = absurd (true-not-false (bit (without w (2 ^ j)) k) (cleared-bit w j k ∙ rw (f, g)) e)

all_none : (n : ℕ) (ws : List ℕ) → n ≡ 0 → all_found n (word_bound n ws) ≡ true
unfolding all_found
all_none n ws e = subst (λ (m : ℕ). every m (λ a. every n (λ b. found (word_bound n ws a b))) ≡ true) (sym e) (every-none _)

module _ (n : ℕ) (ws : List ℕ) where
  -- the bounds of a with the types of `word` that are not in `left` were found
  pub record Tested (a word left : ℕ) : Type 0 where
    pub part : (b : ℕ) → b < 64 → bit left b ≡ true → bit word b ≡ true
    pub done : (b : ℕ) → b < 64 → bit word b ≡ true → bit left b ≡ false → found (word_bound n ws a b) ≡ true

  pub tested-begin : (a word : ℕ) → Tested a word word
  tested-begin a word = record { part = λ b l e. e; done = λ b l e f. absurd (true-not-false (bit word b) e f) }

  pub tested-next : (a word left b : ℕ) → Tested a word left → found (word_bound n ws a b) ≡ true → Tested a word (without left (2 ^ b))
  tested-next a word left b t e =
      record {
        part = λ k l f. t.part k l (and_left (bit left k) (not (eqb k b)) (sym (cleared-bit left b k) ∙ f));
        done = λ k l f g.
            ⊎_elim (t.done k l f) (λ (q : k ≡ b). ap (λ (j : ℕ). found (word_bound n ws a j)) q ∙ e) (gone left b k g);
      }

  pub tested-end : (a word left : ℕ) → left ≡ 0 → Tested a word left → BoundsWith n ws a word true
  tested-end a word left e t =
      record {
        yes-stands = λ h b l f. t.done b l f (ap (λ (w : ℕ). bit w b) e ∙ no-bit b);
        no-stands = λ h. absurd (true-not-false true refl h);
      }

  pub tested-fails : (a word b : ℕ) → a < n → b < n → found (word_bound n ws a b) ≡ false → BoundsWith n ws a word false
  tested-fails a word b la lb e =
      record { yes-stands = λ h. absurd (true-not-false false h refl); no-stands = λ h. bound-missing n ws a b la lb e }

  -- the bounds of the types of `word` that are not in `left` with all types of `word` were found
  pub record Paired (word left : ℕ) : Type 0 where
    pub part : (b : ℕ) → b < 64 → bit left b ≡ true → bit word b ≡ true
    pub done : (a b : ℕ) → a < 64 → b < 64 → bit word a ≡ true → bit word b ≡ true → bit left a ≡ false → found (word_bound n ws a b) ≡ true

  pub paired-begin : (word : ℕ) → Paired word word
  paired-begin word = record { part = λ b l e. e; done = λ a b la lb e f g. absurd (true-not-false (bit word a) e g) }

  pub paired-next : (word left a : ℕ) → a < 64 → a < n → bit word a ≡ true → Paired word left → BoundsWith n ws a (without left (2 ^ a)) true
      → Paired word (without left (2 ^ a))
  paired-next word left a la ln ea p w =
      record {
        part = λ k l f. p.part k l (and_left (bit left k) (not (eqb k a)) (sym (cleared-bit left a k) ∙ f));
        done = λ x y lx ly ex ey g.
            ⊎_elim (λ (e : bit left x ≡ false). p.done x y lx ly ex ey e)
            (λ (q : x ≡ a). ap (λ (j : ℕ). found (word_bound n ws j y)) q ∙ go y ly ey (bit (without left (2 ^ a)) y) refl)
            (gone left a x g);
      }
    where
      go : (y : ℕ) → y < 64 → bit word y ≡ true → (b : Bool) → bit (without left (2 ^ a)) y ≡ b → found (word_bound n ws a y) ≡ true
      go y ly ey true e = w.yes-stands refl y ly e
      go y ly ey false e =
          ⊎_elim (λ (f : bit left y ≡ false). ap found (bound-turned n ws a y) ∙ p.done y a ly la ey ea f)
          (λ (q : y ≡ a). ap (λ (j : ℕ). found (word_bound n ws a j)) q ∙ own-bound n ws a ln)
          (gone left a y e)

  pub paired-end : (word left : ℕ) → left ≡ 0 → Paired word left → BoundsWithin n ws word true
  paired-end word left e p =
      record {
        yes-stands = λ h a b la lb f g. p.done a b la lb f g (ap (λ (w : ℕ). bit w a) e ∙ no-bit a);
        no-stands = λ h. absurd (true-not-false true refl h);
      }

  pub paired-fails : (word : ℕ) → all_found n (word_bound n ws) ≡ false → BoundsWithin n ws word false
  paired-fails word e = record { yes-stands = λ h. absurd (true-not-false false h refl); no-stands = λ h. e }

  -- what a type covers are types
  pub covered-inside : (z w : ℕ) → z < n → Sided n ws → Covered n ws z w → Inside n w
  covered-inside z w l side c j r e = side.inside z j l r (c.part j r e).below

  -- every two types that one of the first k types covers have a bound
  abbrev pub CoversBounded : ℕ → Type 0
  CoversBounded k = (z : ℕ) → z < k → (w : ℕ) × Covered n ws z w × BoundsWithin n ws w true

  pub covers_more : (k w : ℕ) → CoversBounded k → Covered n ws k w → BoundsWithin n ws w true → CoversBounded (k + 1)
  covers_more k w h c b = below_more (λ z. (w : ℕ) × Covered n ws z w × BoundsWithin n ws w true) k h (w, c, b)

  -- if every two types that one type covers have a bound, every two types have one
  pub covers-bounded : n ≤ 64 → Lower n ws → (k : ℕ) → n ≤ k → k ≤ n → CoversBounded k → true ≡ all_found n (word_bound n ws)
  covers-bounded few low k l s h = go (below_or_not 0 n) where
    wider : (z : ℕ) → z < n → z < k
    wider z r = omega arith

    chosen : (z : ℕ) → (z < n) ⊎ (n ≤ z) → ℕ
    chosen z (inl r) = (h z (wider z r)).0
    chosen z (inr r) = 0

    covers : (z : ℕ) (d : (z < n) ⊎ (n ≤ z)) → z < n → Covered n ws z (chosen z d)
    covers z (inl r) lz = (h z (wider z r)).1
    covers z (inr r) lz = absurd (omega arith)

    pairs : (z : ℕ) (d : (z < n) ⊎ (n ≤ z)) (a b : ℕ) → z < n → a < 64 → b < 64 → bit (chosen z d) a ≡ true → bit (chosen z d) b ≡ true
        → found (word_bound n ws a b) ≡ true
    pairs z (inl r) a b lz la lb = (h z (wider z r)).2.yes-stands refl a b la lb
    pairs z (inr r) a b lz la lb = absurd (omega arith)

    go : (0 < n) ⊎ (n ≤ 0) → true ≡ all_found n (word_bound n ws)
    go (inl r) =
        sym (all_meet n ws few low (λ z. chosen z (below_or_not z n)) (λ z. covers z (below_or_not z n)) (λ z. pairs z (below_or_not z n)) r)
    go (inr r) = sym (all_none n ws (omega arith))

-- The types taken so far: every type strictly below i is left, or below one of them.
pub record Taking (n : ℕ) (ws : List ℕ) (i left word : ℕ) : Type 0 where
  pub left-part : (j : ℕ) → bit left j ≡ true → Under ws i j
  pub part : (j : ℕ) → bit word j ≡ true → Under ws i j
  pub over : (x : ℕ) → x < n → Under ws i x → (bit left x ≡ true) ⊎ ((c : ℕ) × (c < n) × (bit word c ≡ true) × (bit (get_or ws c 0) x ≡ true))

module _ {n : ℕ} {ws : List ℕ} (low : Lower n ws) {i : ℕ} (li : i < n) where
  pub take-begin : Taking n ws i (strictly ws i) 0
  take-begin =
      record {
        left-part = λ j e. strictly-under ws i j e;
        part = λ j e. absurd (true-not-false (bit 0 j) e (no-bit j));
        over = λ x l u. inl (under-strictly ws i x u);
      }

  pub take-end : {left word : ℕ} → left ≡ 0 → Taking n ws i left word → Covered n ws i word
  take-end {left} e t =
      record {
        part = λ j l. t.part j;
        over = λ x l u.
            ⊎_elim (λ (f : bit left x ≡ true). absurd (true-not-false (bit left x) f (ap (λ (w : ℕ). bit w x) e ∙ no-bit x))) (λ c. c)
            (t.over x l u);
      }

  module _ {left word : ℕ} (t : Taking n ws i left word) (c : ℕ) (small : c < 64) (stands : bit left c ≡ true) where
    taken : c < n
    taken = low.sided.inside i c li small (t.left-part c stands).below

    one_more : (j : ℕ) → bit (bit_or (without word (get_or ws c 0)) (2 ^ c)) j ≡ ((bit word j && not (bit (get_or ws c 0) j)) || eqb j c)
    one_more j =
        or-bit (without word (get_or ws c 0)) (2 ^ c) j ∙ ap₂ (λ (a b : Bool). a || b) (without-bit word (get_or ws c 0) j) (one_bit c j)

    pub take_next : Taking n ws i (without left (get_or ws c 0)) (bit_or (without word (get_or ws c 0)) (2 ^ c))
    take_next =
        record {
          left-part = λ j e. t.left-part j (and_left (bit left j) (not (bit (get_or ws c 0) j)) (sym (without-bit left (get_or ws c 0) j) ∙ e));
          part = λ j e. part j (eqb j c) refl (sym (one_more j) ∙ e);
          over = λ x l u. over x l (bit (get_or ws c 0) x) refl (t.over x l u);
        }
      where
        part : (j : ℕ) (b : Bool) → eqb j c ≡ b → ((bit word j && not (bit (get_or ws c 0) j)) || eqb j c) ≡ true → Under ws i j
        part j true q e = subst (Under ws i) (sym (eqb-true j c q)) (t.left-part c stands)
        part j false q e = t.part j (and_left (bit word j) (not (bit (get_or ws c 0) j)) (alone (bit word j && not (bit (get_or ws c 0) j)) (rw q at e)))
          where
            alone : (b : Bool) → (b || false) ≡ true → b ≡ true
            alone true e = refl
            alone false e = e

        over : (x : ℕ) → x < n → (b : Bool) → bit (get_or ws c 0) x ≡ b
            → (bit left x ≡ true) ⊎ ((d : ℕ) × (d < n) × (bit word d ≡ true) × (bit (get_or ws d 0) x ≡ true))
            → (bit (without left (get_or ws c 0)) x ≡ true)
            ⊎ ((d : ℕ) × (d < n) × (bit (bit_or (without word (get_or ws c 0)) (2 ^ c)) d ≡ true) × (bit (get_or ws d 0) x ≡ true))
        over x l true e h = inr (c, taken, one_more c ∙ last-true (bit word c && not (bit (get_or ws c 0) c)) (eq-eqb c c refl), e)
          where
            last-true : (a : Bool) {b : Bool} → b ≡ true → (a || b) ≡ true
            last-true true e = refl
            last-true false e = e
        over x l false e (inl f) = inl (without-bit left (get_or ws c 0) x ∙ rw (f, e))
        over x l false e (inr (d, ld, in-word, d-x)) = kept (bit (get_or ws c 0) d) refl
          where
            kept : (b : Bool) → bit (get_or ws c 0) d ≡ b
                → (bit (without left (get_or ws c 0)) x ≡ true)
                ⊎ ((d : ℕ) × (d < n) × (bit (bit_or (without word (get_or ws c 0)) (2 ^ c)) d ≡ true) × (bit (get_or ws d 0) x ≡ true))
            kept true q = absurd (true-not-false (bit (get_or ws c 0) x) (low.chain c d x taken ld l q d-x) e)
            kept false q = inr (d, ld, one_more d ∙ rw (in-word, q), d-x)
