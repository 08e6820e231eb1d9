-- Putting one thing behind the other.
use Rattle.std.proofs.Common.{◌≡◌, ℕ, ◌+◌, ◌<◌, ◌≤◌, List, [], ◌∷◌, ◌++◌, length, get_or, take, drop, sym, ap, ◌∙◌, append_assoc, subst, arith}
use Rattle.std.proofs.lemmas.List.{take_at, drop_at, drop-drop, take_all, take_more, length-append, length-take-le, length-drop}
use Rattle.std.specs.List.{flat_map}
use Rattle.sheet.specs.Sections.{Row, strung, section_bytes}
use Rattle.sheet.proofs.Joins.{joined_take_more, joined_front}
use Rattle.writer.specs.Filled.{over, Filled}
use Rattle.writer.specs.declared.filling.Filling.{Filling}

over_over : (out : List ℕ) (a : ℕ) (xs ys : List ℕ) → a + length xs + length ys ≤ length out → over (over out a xs) (a + length xs) ys ≡ over out a (xs ++ ys)
over_over out a xs ys h =
    let p = take a out ++ xs in
    let rest = drop (a + length xs) out in
    let R = drop (a + length (xs ++ ys)) out in
    let n : length p ≡ a + length xs = length-append (take a out) xs ∙ ap (λ k. k + length xs) (length-take-le a out (omega arith)) in
    let whole : over out a xs ≡ p ++ rest = sym (append_assoc (take a out) xs rest) in
    let front : take (a + length xs) (p ++ rest) ≡ p = take_at p rest (a + length xs) n in
    let back : drop (a + length xs + length ys) (p ++ rest) ≡ R = sym (drop-drop (length ys) (a + length xs) (p ++ rest)) ∙ ap (drop (length ys)) (drop_at p rest (a + length xs) n) ∙ drop-drop (length ys) (a + length xs) out ∙ ap (λ k. drop k out) (omega (arith, length-append xs ys)) in
    (λ i. take (a + length xs) (whole i) ++ (ys ++ drop (a + length xs + length ys) (whole i)))
    ∙ (λ i. front i ++ (ys ++ back i))
    ∙ append_assoc (take a out) xs (ys ++ R)
    ∙ ap (λ l. take a out ++ l) (sym (append_assoc xs ys R))

-- the buffer keeps its length
pub filled_length : (xs : List ℕ) (a b : Filling) → a.filled + length xs ≤ length a.buffer.now → Filled a xs b → length b.buffer.now ≡ length a.buffer.now
filled_length xs a b room f =
    omega (arith, ap length f.holds, length-append (take a.filled a.buffer.now) (xs ++ drop (a.filled + length xs) a.buffer.now), length-append xs (drop (a.filled + length xs) a.buffer.now), length-take-le a.filled a.buffer.now (omega arith), length-drop (a.filled + length xs) a.buffer.now)

-- ys is put behind xs
pub put_more : (xs ys : List ℕ) (a b c : Filling) → a.filled + length (xs ++ ys) ≤ length a.buffer.now → Filled a xs b → Filled b ys c → Filled a (xs ++ ys) c
put_more xs ys a b c room f g =
    record {
      same = g.same ∙ f.same;
      filled = omega (arith, g.filled, f.filled, length-append xs ys);
      holds = g.holds ∙ (λ i. over (f.holds i) (f.filled i) ys) ∙ over_over a.buffer.now a.filled xs ys (omega (arith, length-append xs ys));
    }

-- what was put is something else that is equal
pub put_as : (xs ys : List ℕ) (a b : Filling) → xs ≡ ys → Filled a xs b → Filled a ys b
put_as xs ys a b e f = subst (λ l. Filled a l b) e f

-- ---- a row byte by byte

module _ (xs : List ℕ) (a : Filling) (room : a.filled + length xs ≤ length a.buffer.now) (i : ℕ) (b : Filling) (sofar : Filled a (take i xs) b) where
  -- one more byte is put
  pub byte_more : (x : ℕ) (c : Filling) → i < length xs → get_or xs i 0 ≡ x → Filled b (x ∷ []) c → Filled a (take (i + 1) xs) c
  byte_more x c l is f =
      let more : take i xs ++ (x ∷ []) ≡ take (i + 1) xs = sym (take_more xs i 0 l ∙ ap (λ x. take i xs ++ (x ∷ [])) is) in
      put_as (take i xs ++ (x ∷ [])) (take (i + 1) xs) a c more
      (put_more (take i xs) (x ∷ []) a b c (omega (arith, length-append (take i xs) (x ∷ []), length-take-le i xs (omega arith))) sofar f)

-- ---- items one behind the other, each by its bytes

module _ {X : Type 0} (f : X → List ℕ) (xs : List X) (a : Filling) (room : a.filled + length (flat_map f xs) ≤ length a.buffer.now) (i : ℕ) (b : Filling) (sofar : Filled a (flat_map f (take i xs)) b) (d : X) where
  module _ (l : i < length xs) where
    -- one more item has room
    pub item_room : b.filled + length (f (get_or xs i d)) ≤ length b.buffer.now
    item_room =
        omega (
          arith,
          sofar.filled,
          joined_front f xs (i + 1),
          ap length (joined_take_more f xs i d l),
          length-append (flat_map f (take i xs)) (f (get_or xs i d)),
          filled_length (flat_map f (take i xs)) a b (omega (arith, joined_front f xs i)) sofar,
        )

    -- one more item is put
    pub item_more : (c : Filling) → Filled b (f (get_or xs i d)) c → Filled a (flat_map f (take (i + 1) xs)) c
    item_more c g =
        put_as (flat_map f (take i xs) ++ f (get_or xs i d)) (flat_map f (take (i + 1) xs)) a c (sym (joined_take_more f xs i d l))
        (put_more (flat_map f (take i xs)) (f (get_or xs i d)) a b c (omega (arith, joined_front f xs (i + 1), ap length (joined_take_more f xs i d l))) sofar g)

  pub items_end : length xs ≤ i → Filled a (flat_map f xs) b
  items_end l = put_as (flat_map f (take i xs)) (flat_map f xs) a b (ap (flat_map f) (take_all i xs l)) sofar

-- ---- a section: its number of rows, then its rows

module _ (rs : List Row) (n : ℕ) (e : n ≡ length rs) (a b : Filling) (room : a.filled + length (section_bytes rs) ≤ length a.buffer.now) (counted : Filled a (n ∷ []) b) where
  pub rows_room : b.filled + length (strung rs) ≤ length b.buffer.now
  rows_room = omega (arith, room, counted.filled, filled_length (n ∷ []) a b (omega (arith, room)) counted)

  pub section_end : (c : Filling) → Filled b (strung rs) c → Filled a (section_bytes rs) c
  section_end c f = put_more (length rs ∷ []) (strung rs) a b c room (put_as (n ∷ []) (length rs ∷ []) a b (ap (λ k. k ∷ []) e) counted) f
