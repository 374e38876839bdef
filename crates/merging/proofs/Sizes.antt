-- The lent arrays of a size have room for any two graphs whose nodes and links do not exceed the size.
use Rattle.std.proofs.Common.{◌≡◌, ℕ, ◌+◌, ◌-◌, ◌*◌, ◌<◌, ◌≤◌, ◌⊎◌, List, inl, inr, ⊎_elim, mul-le-mul_left, arith}
use Rattle.layout.specs.Layout.{Recorded, header, size}
use Rattle.layout.proofs.Sums.{rows_end_lem}
use Rattle.merging.specs.Rows.{Holding, Spacious, links_both, words_in}

module _ {a b : List ℕ} (ra : Recorded a) (rb : Recorded b) where
  -- The words of both graphs are their headers and their links.
  pub words-both : words_in a + words_in b ≡ header * (size a + size b) + links_both a b
  words-both = omega (arith, rows_end_lem a ra.sound.shaped (size a) (omega arith), rows_end_lem b rb.sound.shaped (size b) (omega arith))

  pub links-most : links_both a b ≤ 4096
  links-most =
      omega (
        arith,
        rows_end_lem a ra.sound.shaped (size a) (omega arith),
        rows_end_lem b rb.sound.shaped (size b) (omega arith),
        ra.short,
        rb.short,
      )

  -- a merge takes up to `width` places
  pub spacious : {nodes links width pool waiting : ℕ} → size a + size b ≤ nodes → links_both a b ≤ links →
      (64 ≤ width) ⊎ (links ≤ width) → header * nodes + links + width * (nodes - 1) ≤ pool → links < waiting → Spacious a b pool waiting
  spacious {nodes} {links} {width} few short enough pool-long waiting-long =
      record {
        joins =
            record {
              width = width;
              enough = ⊎_elim inl (λ (h : links ≤ width). inr (omega arith)) enough;
              fits =
                  omega (
                    arith,
                    words-both,
                    mul-le-mul_left {m = (size a + size b) - 1} {n = nodes - 1} width (omega arith),
                  );
            };
        pairs = omega arith;
      }

  pub holding : {nodes links graph : ℕ} → size a + size b ≤ nodes → links_both a b ≤ links → 2 + 3 * nodes + links ≤ graph →
      graph ≤ 65535 → Holding a b graph
  holding few short long most = record { words = omega (arith, words-both); short = most }
