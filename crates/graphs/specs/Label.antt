-- A label is what a node carries. The theory of graphs does not know the type table: it is stated over any type of labels with an
-- order, a meet, a join, a greatest label and a test for the contradiction. The labels of a type table are one instance (crate
-- `lattice`).
use Rattle.std.specs.Prelude.{◌≡◌, Bool, true}

-- The labels L with their order, meet and join, their greatest label and the test for the contradiction; `Lattice` has the laws.
pub record Labels : Type 1 where
  pub L : Type 0
  pub le : L → L → Bool
  pub meet : L → L → L
  pub join : L → L → L
  pub top : L
  pub contradiction : L → Bool

-- The labels are a lattice with a greatest label, and every label below a contradiction is a contradiction.
pub record Lattice (𝓛 : Labels) : Type 0 where
  pub le_refl : (a : 𝓛.L) → 𝓛.le a a ≡ true
  pub le_trans : (a b c : 𝓛.L) → 𝓛.le a b ≡ true → 𝓛.le b c ≡ true → 𝓛.le a c ≡ true
  pub le_antisym : (a b : 𝓛.L) → 𝓛.le a b ≡ true → 𝓛.le b a ≡ true → a ≡ b
  pub meet_left : (a b : 𝓛.L) → 𝓛.le (𝓛.meet a b) a ≡ true
  pub meet_right : (a b : 𝓛.L) → 𝓛.le (𝓛.meet a b) b ≡ true
  pub meet-greatest : (a b c : 𝓛.L) → 𝓛.le c a ≡ true → 𝓛.le c b ≡ true → 𝓛.le c (𝓛.meet a b) ≡ true
  pub join-left : (a b : 𝓛.L) → 𝓛.le a (𝓛.join a b) ≡ true
  pub join-right : (a b : 𝓛.L) → 𝓛.le b (𝓛.join a b) ≡ true
  pub join-least : (a b c : 𝓛.L) → 𝓛.le a c ≡ true → 𝓛.le b c ≡ true → 𝓛.le (𝓛.join a b) c ≡ true
  pub top-greatest : (a : 𝓛.L) → 𝓛.le a 𝓛.top ≡ true
  pub contradiction-down : (a b : 𝓛.L) → 𝓛.le a b ≡ true → 𝓛.contradiction b ≡ true → 𝓛.contradiction a ≡ true
