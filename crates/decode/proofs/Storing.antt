-- This file is about the words that parsing fills: a row's links, a row, and the rows of a record.
use mathlib.Core.Path.{◌≡◌, refl, sym, ap, ap₂, ◌∙◌, subst, subst₂}
use mathlib.Core.Bool.{Bool, true, false, cond}
use mathlib.Core.List.{List, [], ◌∷◌, ◌++◌, append-nil}
use mathlib.Core.Option.{Option, none, some, map, bind}
use Prim.Native.Nat.{ℕ, suc, ◌+◌, ◌-◌, ◌*◌, ◌^◌, ◌≤◌, ◌<◌, min}
use native.Mathlib.Decide.{dec_lt}
use native.Mathlib.Numerals.{add-one}
use native.Mathlib.Omega.{arith}
use borrow.Author.Tests.{eq-eqb, ne_eqb}
use lib.Bits.{bit_and, and_le_l}
use lib.Count.{count_trailing_zeros}
use lib.Dec.{eqb}
use lib.ListN.{length, get_or, set, drop, length-drop, length-set, drop_of_length-le}
use lib.Seq.{drop-cons, get_or-drop, get_or-set_same, get_or-set_other}
use Rattle.graphs.specs.Rows.{Row}
use Rattle.graphs.proofs.Walk.{some-injective, none-some}
use Rattle.lattice.specs.Label.{Label}
use Rattle.lattice.specs.Words.{without}
use Rattle.lattice.proofs.Bits.{lowest-bit, lowest-cleared}
use Rattle.layout.specs.Layout.{header, longest, label_from, link_word, size, links_between, rows_from, rows_of}
use Rattle.layout.specs.Builder.{Built, Open, Same, put_label}
use Rattle.layout.proofs.Spans.{links-none}
use Rattle.layout.proofs.Builder.{same-before, same-trans, label_same, length-put, put-before, label-put, links-put, built-kept, rows-kept, built-begin, row_closes, closed-rows, built-shaped}
use Rattle.std.specs.Prelude.{Option as Answer, Some, None, IsTrue, ◌↔◌}
use Rattle.decode.specs.Answers.{Parses, Roomy}
use Rattle.decode.specs.Decode.{Taken, changed, take_target, take_row, take_rows, whole, decoded}
use Rattle.decode.specs.Reader.{ByteTaken, LabelTaken, MapTaken}
use Rattle.decode.specs.Storing.{RowsFit, Stored, Took, row_between}
use Rattle.decode.specs.Word.{take_word}
use Rattle.decode.proofs.Decoded.{are-bytes, decoded-says, decoded-orderly}
use Rattle.decode.proofs.Labels.{label-known}
use Rattle.decode.proofs.Reading.{after, after_none, after_more, no_room, no_bytes, one-target, untaken, row_is, Counted, rows-one, decoded-rows}
use Rattle.decode.proofs.Word.{first-digit, word_none}

-- Links.

-- `read` is the links that stand between `at` and `end`, and those that the digits of `left` state.
pub record Linking (read : Option (Taken (List (ℕ × ℕ)))) (bytes : List ℕ) (start at limit : ℕ) (ws₀ ws : List ℕ) (left next end : ℕ) : Type 0 where
  pub small : left < 2 ^ 64
  pub read_is : read ≡ after (links_between ws at end) (take_word 64 0 left (limit - end) (drop next bytes))
  pub low : at ≤ end
  pub room : end ≤ limit
  pub inside : next ≤ length bytes
  pub before : Same ws₀ ws 0 at
  pub long : length ws ≡ length ws₀
  pub pace : end + start ≡ at + next
  pub words : min limit (end + (length bytes - next)) ≤ length ws₀
  pub few : limit ≤ longest

pub link-begin : (bytes : List ℕ) (word start at limit : ℕ) (ws : List ℕ) → word < 2 ^ 64 → RowsFit bytes start at limit ws →
    Linking (take_word 64 0 word (limit - at) (drop start bytes)) bytes start at limit ws ws word start at
link-begin bytes word start at limit ws small f =
    record {
      small = small;
      read_is =
          after_none (take_word 64 0 word (limit - at) (drop start bytes))
          ∙ ap (λ (ls : List (ℕ × ℕ)). after ls (take_word 64 0 word (limit - at) (drop start bytes))) (sym (links-none ws at));
      low = omega arith;
      room = f.room;
      inside = f.inside;
      before = λ k low high. refl;
      long = refl;
      pace = omega arith;
      words = f.words;
      few = f.few;
    }

-- a place below both bounds of words
inside-words : {limit bytes words : ℕ} (end next : ℕ) → min limit (end + (bytes - next)) ≤ words → end < limit → next < bytes → end < words
inside-words end next h low left = omega arith

module _ {read : Option (Taken (List (ℕ × ℕ)))} {bytes : List ℕ} {start at limit : ℕ} {ws₀ ws : List ℕ} {left next end : ℕ}
    (s : Linking read bytes start at limit ws₀ ws left next end) where
  pub link-feature : (left ≡ 0 → ⊥) → count_trailing_zeros 64 left < 64
  link-feature n = (lowest-bit 64 left s.small (omega arith)).0

  read_next : (left ≡ 0 → ⊥) →
      read ≡ after (links_between ws at end)
      (take_target (count_trailing_zeros 64 left) (take_word 64 0 (bit_and left (left - 1))) (limit - end) (drop next bytes))
  read_next n =
      let e : 0 + count_trailing_zeros 64 left ≡ count_trailing_zeros 64 left = omega arith in
      s.read_is
      ∙ ap (after (links_between ws at end)) (first-digit 64 0 left s.small n (limit - end) (drop next bytes)
      ∙ ap (λ (f : ℕ). take_target f (take_word 64 0 (bit_and left (left - 1))) (limit - end) (drop next bytes)) e)

  pub link-room : end < limit → next < length bytes → end < length ws
  link-room h l = omega (arith, inside-words end next s.words h l, s.long)

  pub link-full : (left ≡ 0 → ⊥) → limit ≤ end → read ≡ none
  unfolding after
  link-full n h = read_next n ∙ ap (after (links_between ws at end)) (no_room _ _ (limit - end) (drop next bytes) (omega arith))

  pub link-short : (left ≡ 0 → ⊥) → length bytes ≤ next → read ≡ none
  unfolding after
  link-short n h =
      read_next n ∙ ap (after (links_between ws at end)) (no_bytes _ _ (limit - end) (drop next bytes) (drop_of_length-le bytes h))

  link-step : (left ≡ 0 → ⊥) → end < limit → next < length bytes → get_or bytes next 0 < 256 →
      Linking read bytes start at limit ws₀ (set ws end (link_word (count_trailing_zeros 64 left, get_or bytes next 0)))
      (bit_and left (left - 1)) (next + 1) (end + 1)
  link-step n h l small =
      let link : ℕ × ℕ = (count_trailing_zeros 64 left, get_or bytes next 0) in
      let others : ℕ = bit_and left (left - 1) in
      let here : end < length ws = link-room h l in
      record {
        small = omega (arith, s.small, and_le_l left (left - 1));
        read_is =
            read_next n
            ∙ ap (λ (l : List ℕ). after (links_between ws at end) (take_target (count_trailing_zeros 64 left) (take_word 64 0 others) (limit - end) l))
            (drop-cons bytes next 0 l)
            ∙ ap (after (links_between ws at end)) (one-target (count_trailing_zeros 64 left) (take_word 64 0 others)
            (limit - end) (limit - (end + 1)) (get_or bytes next 0) (drop (suc next) bytes) (omega arith))
            ∙ after_more (links_between ws at end) link (take_word 64 0 others (limit - (end + 1)) (drop (suc next) bytes))
            ∙ ap (λ (k : ℕ). after (links_between ws at end ++ (link ∷ [])) (take_word 64 0 others (limit - (end + 1)) (drop k bytes)))
            (sym (add-one next))
            ∙ ap (λ (ls : List (ℕ × ℕ)). after ls (take_word 64 0 others (limit - (end + 1)) (drop (next + 1) bytes)))
            (sym (links-put ws at end link s.low here (omega arith)));
        low = omega (arith, s.low);
        room = omega arith;
        inside = omega arith;
        before = same-trans ws₀ ws (set ws end (link_word link)) s.before (same-before ws end (link_word link) 0 at s.low);
        long = length-set ws end (link_word link) ∙ s.long;
        pace = omega (arith, s.pace);
        words = omega (arith, s.words);
        few = s.few;
      }

  pub link-next : {b behind word others : ℕ} → (left ≡ 0 → ⊥) → end < limit → b < 256 → ByteTaken bytes next b behind →
      word ≡ link_word (count_trailing_zeros 64 left, b) → others ≡ without left (2 ^ count_trailing_zeros 64 left) →
      Linking read bytes start at limit ws₀ (set ws end word) others behind (end + 1)
  link-next {b} {behind} {word} {others} n h small t e o =
      subst (λ (l : ℕ). Linking read bytes start at limit ws₀ (set ws end word) l behind (end + 1))
      (lowest-cleared left s.small (omega arith) ∙ sym o)
      (subst₂ (λ (w k : ℕ). Linking read bytes start at limit ws₀ (set ws end w) (bit_and left (left - 1)) k (end + 1))
      (ap (λ (b : ℕ). link_word (count_trailing_zeros 64 left, b)) (sym t.byte-is) ∙ sym e) (sym t.next-is)
      (link-step n h t.inside (omega (arith, t.byte-is))))

  pub link-end : left ≡ 0 → Stored (links_between ws at end) read bytes limit next end
  unfolding after
  link-end e =
      record {
        read_is =
            s.read_is
            ∙ ap (λ (w : ℕ). after (links_between ws at end) (take_word 64 0 w (limit - end) (drop next bytes))) e
            ∙ ap (after (links_between ws at end)) (word_none 64 0 (limit - end) (drop next bytes))
            ∙ ap (λ ls. some (record { value = ls; room = limit - end; rest = drop next bytes })) (append-nil (links_between ws at end));
        room = s.room;
        inside = s.inside;
      }

-- What a function that stores answers.

module _ {X : Type 0} {found : List ℕ → ℕ → ℕ → X} {least : ℕ} {read : Option (Taken X)} {bytes : List ℕ} {start at limit : ℕ} {ws ws' : List ℕ} where
  pub took-none : {next : ℕ} → read ≡ none → Same ws ws' 0 at → length ws' ≡ length ws →
      Took found least read bytes start at limit ws None next ws'
  took-none e before long =
      record { short-stands = λ q. e; at-stands = λ end q. absurd (cc); spare = λ end q. absurd (cc); before = before; long = long }

  pub took-all : {next end : ℕ} → at + least ≤ end → end + start ≤ at + next → Stored (found ws' at end) read bytes limit next end →
      Same ws ws' 0 at → length ws' ≡ length ws → Took found least read bytes start at limit ws (Some end) next ws'
  took-all {next} {end} low spare s before long =
      record {
        short-stands = λ q. absurd (cc);
        at-stands = λ m q.
            let e : end ≡ m = cc in
            subst (λ (b : ℕ). (at + least ≤ b) × Stored (found ws' at b) read bytes limit next b) e (low, s);
        spare = λ m q.
            let e : end ≡ m = cc in
            omega arith;
        before = before;
        long = long;
      }

-- A row.

-- the row whose label and map the reader took, and whose links were stored behind its label, or not
pub row_read : (bytes : List ℕ) (start at limit : ℕ) (ws : List ℕ) {opened : List ℕ} {answer : Answer ℕ} {ws' : List ℕ} {l : Label}
    {behind word first next : ℕ} → ((i : ℕ) → get_or bytes i 0 < 256) → at + header ≤ length ws → LabelTaken bytes start l behind →
    MapTaken bytes behind word first → opened ≡ put_label ws at l →
    Took links_between 0 (take_word 64 0 word (limit - (at + header)) (drop first bytes)) bytes first (at + header) limit opened answer next ws' →
    Took row_between header (take_row (limit - (at + header)) (drop start bytes)) bytes start at limit ws answer next ws'
row_read bytes start at limit ws {opened} {answer} {ws'} {l} {behind} {word} {first} {next} small inside labelled mapped put t =
    record {
      short-stands = λ q. same ∙ ap (map (changed more)) (t.short-stands q);
      at-stands = λ end q.
          let (low, s) = t.at-stands end q in (
            omega arith,
            record {
              read_is =
                  same
                  ∙ ap (map (changed more)) s.read_is
                  ∙ ap (λ (x : Label). some
                  (record { value = (x, links_between ws' (at + header) end); room = limit - end; rest = drop next bytes })) (sym label);
              room = s.room;
              inside = s.inside;
            },
          );
      spare = λ end q. omega (arith, t.spare end q, labelled.next-is, mapped.next-is);
      before =
          same-trans ws opened ws' (subst (λ (new : List ℕ). Same ws new 0 at) (sym put) (put-before ws at l 0 at (omega arith)))
          (λ k low high. t.before k low (omega arith));
      long = t.long ∙ ap length put ∙ length-put ws at l;
    }
  where
    more : List (ℕ × ℕ) → Row Label
    more ls = (l, ls)

    highest : l.highest ≤ 255
    highest =
        subst (λ (x : Label). x.highest ≤ 255) (sym labelled.label_is)
        (label-known (drop start bytes) (λ i. rw get_or-drop (small (start + i)))).highest

    label : label_from ws' at ≡ l
    label =
        label_same opened ws' at (λ k low high. t.before k (omega arith) high)
        ∙ ap (λ (new : List ℕ). label_from new at) put
        ∙ label-put ws at l inside highest

    same : take_row (limit - (at + header)) (drop start bytes)
        ≡ map (changed more) (take_word 64 0 word (limit - (at + header)) (drop first bytes))
    same = row_is bytes start (limit - (at + header)) small labelled mapped

-- A record.

-- The rows of the record are those that are stored and those still to be read.
pub record Filling (bytes : List ℕ) (nodes room : ℕ) (ws : List ℕ) (at limit next v : ℕ) : Type 0 where
  pub todo : ℕ
  pub up_to : v + todo ≡ nodes
  pub read_is : take_rows nodes 2048 (drop 1 bytes) ≡ after (rows_from ws 0 v) (take_rows todo (limit - at) (drop next bytes))
  pub inside : next ≤ length bytes
  pub limited : limit ≡ nodes + 2 + 2048 + v * header
  pub below : at ≤ limit
  pub built : Built ws (nodes + 2) v at
  pub sized : size ws ≡ nodes
  pub long : length ws ≡ room
  pub words : min longest (at + header + (length bytes - next)) ≤ room

-- the words with the number of nodes and the first row's beginning
abbrev begun : List ℕ → ℕ → List ℕ
begun ws nodes = set (set ws 0 nodes) 1 (nodes + 2)

length-begun : (ws : List ℕ) (nodes : ℕ) → length (begun ws nodes) ≡ length ws
length-begun ws nodes = length-set (set ws 0 nodes) 1 (nodes + 2) ∙ length-set ws 0 nodes

pub fill-begin : (bytes : List ℕ) (nodes next : ℕ) (ws : List ℕ) → Counted bytes nodes next → Roomy bytes ws →
    Filling bytes nodes (length (begun ws nodes)) (begun ws nodes) (nodes + 2) (nodes + 2 + 2048) next 0
unfolding rows_from
fill-begin bytes nodes next ws n roomy =
    let longer : length (set ws 0 nodes) ≡ length ws = length-set ws 0 nodes in
    let enough : nodes + 2 < length ws = omega (arith, n.small, n.taken.inside) in
    let room : nodes + 2 + 2048 - (nodes + 2) ≡ 2048 = omega arith in
    record {
      todo = nodes;
      up_to = omega arith;
      read_is =
          after_none (take_rows nodes 2048 (drop 1 bytes))
          ∙ ap₂ (λ (k r : ℕ). after [] (take_rows nodes r (drop k bytes))) (sym n.taken.next-is) (sym room);
      inside = omega (arith, n.taken.inside, n.taken.next-is);
      limited = omega arith;
      below = omega arith;
      built = built-begin (set ws 0 nodes) (nodes + 2) (omega arith) (omega arith);
      sized =
          get_or-set_other (set ws 0 nodes) 1 0 (nodes + 2) 0 (λ (e : 0 ≡ 1). omega arith) ∙ get_or-set_same ws 0 nodes 0 (omega arith);
      long = refl;
      words = omega (arith, n.small, n.taken.inside, n.taken.next-is, length-begun ws nodes);
    }

-- filling keeps the length
pub fill-same : {bytes : List ℕ} {nodes : ℕ} (ws : List ℕ) {now : List ℕ} {at limit next v : ℕ} →
    Filling bytes nodes (length (begun ws nodes)) now at limit next v → length now ≡ length ws
fill-same {nodes = nodes} ws s = s.long ∙ length-begun ws nodes

pub parse-none : (bytes ws : List ℕ) → decoded bytes ≡ none → Parses bytes false ws
parse-none bytes ws e = record { refuses = λ q. refl; holds = λ rows q. none-some (sym e ∙ q) }

module _ {bytes : List ℕ} {nodes room : ℕ} {ws : List ℕ} {at limit next v : ℕ} (s : Filling bytes nodes room ws at limit next v) where
  -- a header has room, and so have all links
  pub fill-room : nodes ≤ 255 → v < nodes → limit + header ≤ longest
  fill-room small h = omega (arith, s.limited)

  row_room : limit + header - (at + header) ≡ limit - at
  row_room = omega arith

  -- no further row
  pub decoded-stop : {start : ℕ} → Counted bytes nodes start → v < nodes →
      take_row (limit + header - (at + header)) (drop next bytes) ≡ none → decoded bytes ≡ none
  unfolding after bind
  decoded-stop n h e =
      decoded-rows bytes nodes n
      ∙ ap whole (s.read_is
      ∙ ap (after (rows_from ws 0 v)) (rows-one s.todo (limit - at) (drop next bytes) (omega (arith, s.up_to))
      ∙ ap (λ (o : Option (Taken (Row Label))). bind o λ r. map (changed λ rs. r.value ∷ rs)
      (take_rows (s.todo - 1) r.room r.rest)) (ap (λ (r : ℕ). take_row r (drop next bytes)) (sym row_room) ∙ e)))

  -- one row more
  pub fill-next : (behind end : ℕ) (answer : Answer ℕ) (ws' : List ℕ) → nodes ≤ 255 → v < nodes →
      Took row_between header (take_row (limit + header - (at + header)) (drop next bytes)) bytes next at (limit + header) ws answer behind ws' →
      answer ≡ Some end →
      Filling bytes nodes room (set ws' (v + 2) end) end (limit + header) behind (v + 1)
  unfolding bind
  fill-next behind end answer ws' small h t e =
      record {
        todo = s.todo - 1;
        up_to = omega (arith, s.up_to);
        read_is =
            s.read_is
            ∙ ap (after rows) (rows-one s.todo (limit - at) (drop next bytes) (omega (arith, s.up_to))
            ∙ ap (λ (o : Option (Taken (Row Label))). bind o λ r. map (changed λ rs. r.value ∷ rs)
            (take_rows (s.todo - 1) r.room r.rest))
            (ap (λ (r : ℕ). take_row r (drop next bytes)) (sym row_room) ∙ stored.read_is))
            ∙ after_more rows (row_between ws' at end) (take_rows (s.todo - 1) (limit + header - end) (drop behind bytes))
            ∙ ap (λ (l : List (Row Label)). after l (take_rows (s.todo - 1) (limit + header - end) (drop behind bytes))) (sym rows_are);
        inside = stored.inside;
        limited = omega (arith, s.limited);
        below = stored.room;
        built = row_closes row (omega arith);
        sized =
            get_or-set_other ws' (v + 2) 0 end 0 (λ (z : 0 ≡ v + 2). omega arith)
            ∙ t.before 0 (omega arith) (omega (arith, s.built.low))
            ∙ s.sized;
        long = length-set ws' (v + 2) end ∙ t.long ∙ s.long;
        words = omega (arith, s.words, t.spare end e, s.inside, stored.inside);
      }
    where
      rows : List (Row Label)
      rows = rows_from ws 0 v

      stored : Stored (row_between ws' at end) (take_row (limit + header - (at + header)) (drop next bytes)) bytes (limit + header) behind end
      stored = (t.at-stands end e).1

      starts : Same ws ws' 1 (v + 2)
      starts k low high = t.before k (omega arith) (omega (arith, s.built.listed, s.built.low))

      row : Open ws' (nodes + 2) v at end
      row =
          record {
            built = built-kept s.built ws' t.long starts;
            headed = (t.at-stands end e).0;
            inside = omega (arith, stored.room, fill-room small h, t.long, s.long, s.words, t.spare end e, s.inside, stored.inside);
          }

      rows_are : rows_from (set ws' (v + 2) end) 0 (v + 1) ≡ rows ++ (row_between ws' at end ∷ [])
      rows_are =
          closed-rows row (omega arith)
          ∙ ap (λ (l : List (Row Label)). l ++ (row_between ws' at end ∷ []))
          (rows-kept s.built ws' t.long starts (λ k low high. t.before k (omega arith) high))

  -- all rows were read
  rows_all : nodes ≤ v → take_rows nodes 2048 (drop 1 bytes) ≡ some (record { value = rows_of ws; room = limit - at; rest = drop next bytes })
  unfolding after take_rows
  rows_all h =
      let none_left : s.todo ≡ 0 = omega (arith, s.up_to) in
      let all : v ≡ size ws = omega (arith, s.up_to, s.sized) in
      s.read_is
      ∙ ap (λ (k : ℕ). after (rows_from ws 0 v) (take_rows k (limit - at) (drop next bytes))) none_left
      ∙ ap (λ (l : List (Row Label)). some (record { value = l; room = limit - at; rest = drop next bytes })) (append-nil (rows_from ws 0 v))
      ∙ ap (λ (k : ℕ). some (record { value = rows_from ws 0 k; room = limit - at; rest = drop next bytes })) all

  -- bytes are left over
  decoded-over : {start : ℕ} → Counted bytes nodes start → nodes ≤ v → next < length bytes → decoded bytes ≡ none
  decoded-over n h over =
      decoded-rows bytes nodes n
      ∙ ap whole (rows_all h)
      ∙ untaken (eqb (length (drop next bytes)) 0) (some (rows_of ws)) none
      (ne_eqb (length (drop next bytes)) 0 (λ q. omega (arith, length-drop next bytes)))

  parse-all : {start : ℕ} → Counted bytes nodes start → ((i : ℕ) → get_or bytes i 0 < 256) → nodes ≤ v → length bytes ≤ next →
      Parses bytes true ws
  parse-all n small h over =
      record {
        refuses = λ q. none-some (sym q ∙ read);
        holds = λ rows q. (
          refl,
          record {
            rows_are = some-injective (sym read ∙ q);
            shaped =
                built-shaped s.built (omega (arith, s.up_to, s.sized)) (omega (arith, n.some-nodes)) (omega (arith, s.up_to, n.small))
                (decoded-orderly bytes (rows_of ws) (decoded-says bytes (rows_of ws) read) (are-bytes bytes small));
            small = omega (arith, s.sized, n.small);
          },
        );
      }
    where
      read : decoded bytes ≡ some (rows_of ws)
      read =
          decoded-rows bytes nodes n
          ∙ ap whole (rows_all h)
          ∙ ap (λ (b : Bool). cond b (some (rows_of ws)) none)
          (eq-eqb (length (drop next bytes)) 0 (omega (arith, length-drop next bytes)))

  -- whether bytes are left over
  pub parse-end : {start : ℕ} (answer : Bool) → Counted bytes nodes start → ((i : ℕ) → get_or bytes i 0 < 256) → nodes ≤ v →
      (IsTrue answer ↔ (length bytes ≤ next)) → Parses bytes answer ws
  parse-end true n small h ends = parse-all n small h (ends.0 refl)
  parse-end false n small h ends = parse-none bytes ws (decoded-over n h (over (dec_lt next (length bytes))))
    where
      over : Dec (next < length bytes) → next < length bytes
      over (yes l) = l
      over (no m) = absurd (let e : false ≡ true = ends.1 (omega arith) in cc)
