-- What the slots of a host in memory have left, as its files and links grow.
use Rattle.std.proofs.Common.{◌≡◌, ℕ, suc, ◌+◌, ◌<◌, ◌≤◌, List, [], ◌∷◌, ◌++◌, length, get_or, drop, map, Option, Some, None, Bool, true, false, refl, sym, ap, ◌∙◌, subst, arith, inl, inr, ◌⊎◌}
use Rattle.std.specs.Str.{bytes_eq}
use Rattle.std.proofs.lemmas.Slice.Eq.{bytes_eq-Decides}
use Rattle.std.proofs.lemmas.List.{get_or_append_left, map_push, length-map}
use Rattle.tl_base.specs.Outside.{Left, HasFile, slot_part, with_slot}
use Rattle.tl_base.specs.MemoryContents.{file_view, file_bytes, link_bytes, index_from, origin_bytes, left_by, lefts, reading_of, with_reading, origin_files, origin_links, IsOpenIn, AreOpenIn}
use Rattle.tl_base.specs.declared.host.Slot.{Slot}
use Rattle.tl_base.specs.declared.host.Slot.TheVariants as slots
use Rattle.tl_base.specs.declared.mem_contents.MemFile.{MemFile}
use Rattle.tl_base.specs.declared.mem_contents.MemLink.{MemLink}
use Rattle.tl_base.specs.declared.mem_contents.Origin.{Origin}
use Rattle.tl_base.specs.declared.mem_contents.Origin.TheVariants.{File, Link}
use Rattle.tl_base.specs.declared.mem_contents.Reading.{Reading}
use Rattle.tl_base.specs.declared.mem_contents.Readings.{Readings}

-- ---- a slot is read

pub part_is : (slot : Slot) (fs : List MemFile) (ls : List MemLink) (rs : Readings) → slot_part slot (lefts fs ls rs) ≡ left_by fs ls (reading_of slot rs)
part_is slots.Schema fs ls rs = refl
part_is slots.Input fs ls rs = refl
part_is slots.State fs ls rs = refl
part_is slots.Link fs ls rs = refl

pub lefts_set : (slot : Slot) (fs : List MemFile) (ls : List MemLink) (r : Reading) (rs : Readings) → lefts fs ls (with_reading slot r rs) ≡ with_slot slot (left_by fs ls (Some r)) (lefts fs ls rs)
lefts_set slots.Schema fs ls r rs = refl
lefts_set slots.Input fs ls r rs = refl
lefts_set slots.State fs ls r rs = refl
lefts_set slots.Link fs ls r rs = refl

pub open_set : (slot : Slot) (n m : ℕ) (r : Reading) (rs : Readings) → IsOpenIn n m (Some r) → AreOpenIn n m rs → AreOpenIn n m (with_reading slot r rs)
open_set slots.Schema n m r rs is all = record { schema = is; input = all.input; state = all.state; link = all.link }
open_set slots.Input n m r rs is all = record { schema = all.schema; input = is; state = all.state; link = all.link }
open_set slots.State n m r rs is all = record { schema = all.schema; input = all.input; state = is; link = all.link }
open_set slots.Link n m r rs is all = record { schema = all.schema; input = all.input; state = all.state; link = is }

-- ---- more files, more links

grown : {X : Type 0} (f : X → List ℕ) (xs : List X) (x : X) (i : ℕ) → i < length xs → get_or (map f (xs ++ x ∷ [])) i [] ≡ get_or (map f xs) i []
grown f xs x i lt = ap (λ (l : List (List ℕ)). get_or l i []) (map_push f xs x) ∙ get_or_append_left (map f xs) (f x ∷ []) [] i (omega (arith, length-map xs f, lt))

origin_file : (fs : List MemFile) (f : MemFile) (ls : List MemLink) (o : Origin) → origin_files o ≤ length fs → origin_bytes (fs ++ f ∷ []) ls o ≡ origin_bytes fs ls o
origin_file fs f ls (File i) h = grown file_bytes fs f i (omega (arith, h))
origin_file fs f ls (Link i) h = refl

left_file : (fs : List MemFile) (f : MemFile) (ls : List MemLink) (o : Option Reading) → IsOpenIn (length fs) (length ls) o → left_by (fs ++ f ∷ []) ls o ≡ left_by fs ls o
left_file fs f ls None h = refl
left_file fs f ls (Some r) h = ap (drop r.at) (origin_file fs f ls r.origin h.0)

origin_link : (fs : List MemFile) (ls : List MemLink) (l : MemLink) (o : Origin) → origin_links o ≤ length ls → origin_bytes fs (ls ++ l ∷ []) o ≡ origin_bytes fs ls o
origin_link fs ls l (File i) h = refl
origin_link fs ls l (Link i) h = grown link_bytes ls l i (omega (arith, h))

left_link : (fs : List MemFile) (ls : List MemLink) (l : MemLink) (o : Option Reading) → IsOpenIn (length fs) (length ls) o → left_by fs (ls ++ l ∷ []) o ≡ left_by fs ls o
left_link fs ls l None h = refl
left_link fs ls l (Some r) h = ap (drop r.at) (origin_link fs ls l r.origin h.1)

four : List ℕ → List ℕ → List ℕ → List ℕ → Left
four a b c d = record { schema = a; input = b; state = c; link = d }

same_four : (a b c d a' b' c' d' : List ℕ) → a ≡ a' → b ≡ b' → c ≡ c' → d ≡ d' → four a b c d ≡ four a' b' c' d'
same_four a b c d a' b' c' d' p q r s = cc

pub lefts_file : (fs : List MemFile) (f : MemFile) (ls : List MemLink) (rs : Readings) → AreOpenIn (length fs) (length ls) rs → lefts (fs ++ f ∷ []) ls rs ≡ lefts fs ls rs
unfolding four
lefts_file fs f ls rs all = same_four _ _ _ _ _ _ _ _ (left_file fs f ls rs.schema all.schema) (left_file fs f ls rs.input all.input) (left_file fs f ls rs.state all.state) (left_file fs f ls rs.link all.link)

pub lefts_link : (fs : List MemFile) (ls : List MemLink) (l : MemLink) (rs : Readings) → AreOpenIn (length fs) (length ls) rs → lefts fs (ls ++ l ∷ []) rs ≡ lefts fs ls rs
unfolding four
lefts_link fs ls l rs all = same_four _ _ _ _ _ _ _ _ (left_link fs ls l rs.schema all.schema) (left_link fs ls l rs.input all.input) (left_link fs ls l rs.state all.state) (left_link fs ls l rs.link all.link)

-- ---- links that give the same

origin_same : (fs : List MemFile) (ls ms : List MemLink) (o : Origin) → map link_bytes ms ≡ map link_bytes ls → origin_bytes fs ms o ≡ origin_bytes fs ls o
origin_same fs ls ms (File i) e = refl
origin_same fs ls ms (Link i) e = ap (λ (l : List (List ℕ)). get_or l i []) e

left_same : (fs : List MemFile) (ls ms : List MemLink) (o : Option Reading) → map link_bytes ms ≡ map link_bytes ls → left_by fs ms o ≡ left_by fs ls o
left_same fs ls ms None e = refl
left_same fs ls ms (Some r) e = ap (drop r.at) (origin_same fs ls ms r.origin e)

pub lefts_same : (fs : List MemFile) (ls ms : List MemLink) (rs : Readings) → map link_bytes ms ≡ map link_bytes ls → lefts fs ms rs ≡ lefts fs ls rs
unfolding four
lefts_same fs ls ms rs e = same_four _ _ _ _ _ _ _ _ (left_same fs ls ms rs.schema e) (left_same fs ls ms rs.input e) (left_same fs ls ms rs.state e) (left_same fs ls ms rs.link e)

pub same_length : (ls ms : List MemLink) → map link_bytes ms ≡ map link_bytes ls → length ms ≡ length ls
same_length ls ms e = sym (length-map ms link_bytes) ∙ (ap length e ∙ length-map ls link_bytes)

-- ---- files by their names

case : (b : Bool) → (b ≡ true) ⊎ (b ≡ false)
case true = inl refl
case false = inr refl

true_false : true ≡ false → ⊥
true_false e = cc

some_is : {A : Type 0} (x y : A) → Some x ≡ Some y → x ≡ y
some_is x y e = cc

some_none : {A : Type 0} (x : A) → Some x ≡ None → ⊥
some_none x e = cc

found : (i k : ℕ) (fs : List MemFile) (name : List ℕ) → index_from i fs name ≡ Some k → (j : ℕ) × (k ≡ i + j) × (j < length fs) × HasFile (map file_view fs) name (get_or (map file_bytes fs) j [])
found i k [] name e = absurd (some_none k (sym e))
found i k (f ∷ fs) name e =
    elim (case (bytes_eq f.name name)) [
      | inl same ↦ (0, sym (some_is i k (sym (rw same refl) ∙ e)) ∙ omega arith, omega arith, inl ((bytes_eq-Decides f.name name).0 same, refl))
      | inr other ↦
          let more = found (suc i) k fs name (rw other at e) in
          (suc more.0, more.1 ∙ omega arith, omega (arith, more.2), inr (λ same. true_false (sym ((bytes_eq-Decides f.name name).1 same) ∙ other), more.3))
    ]

pub found_at : (k : ℕ) (fs : List MemFile) (name : List ℕ) → index_from 0 fs name ≡ Some k → HasFile (map file_view fs) name (get_or (map file_bytes fs) k [])
found_at k fs name e =
    let f = found 0 k fs name e in
    let same : f.0 ≡ k = omega (arith, f.1) in
    subst (λ (j : ℕ). HasFile (map file_view fs) name (get_or (map file_bytes fs) j [])) same f.3

pub found_below : (k : ℕ) (fs : List MemFile) (name : List ℕ) → index_from 0 fs name ≡ Some k → k < length fs
found_below k fs name e = let f = found 0 k fs name e in omega (arith, f.1, f.2)

pub not_found : (i : ℕ) (fs : List MemFile) (name bytes : List ℕ) → index_from i fs name ≡ None → HasFile (map file_view fs) name bytes → ⊥
not_found i [] name bytes e h = h
not_found i (f ∷ fs) name bytes e h =
    elim (case (bytes_eq f.name name)) [
      | inl same ↦ some_none i (sym (rw same refl) ∙ e)
      | inr other ↦ elim h [
        | inl here ↦ true_false (sym ((bytes_eq-Decides f.name name).1 here.0) ∙ other)
        | inr later ↦ not_found (suc i) fs name bytes (rw other at e) later.1
      ]
    ]
