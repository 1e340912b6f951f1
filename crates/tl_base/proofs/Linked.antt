-- What was written to links in memory.
use Rattle.std.proofs.Common.{◌≡◌, ℕ, ◌+◌, ◌-◌, ◌<◌, ◌≤◌, List, [], ◌∷◌, ◌++◌, length, get_or, take, drop, map, set, Option, Some, None, refl, sym, ap, ◌∙◌, arith}
use Rattle.std.proofs.lemmas.List.{take_more, take_more_set, set_at, get_or_at, get_or-map, get_or-drop, take-append-le, drop-append-le, map_push, take-map, drop-map, drop-drop, length-map, length-append, map-set, set-get_or}
use Rattle.std.specs.Prelude.{IfSome, IfNone}
use Rattle.tl_base.specs.Outside.{last_or, with_last, if_no_list}
use Rattle.tl_base.specs.MemoryContents.{link_bytes, link_written}
use Rattle.tl_base.specs.declared.mem_contents.MemLink.{MemLink}

-- the last of a list
last_push : (none x : List ℕ) (xs : List (List ℕ)) → last_or none (xs ++ x ∷ []) ≡ x
last_push none x xs = get_or_at xs x [] none (length (xs ++ x ∷ []) - 1) (omega (arith, length-append xs (x ∷ [])))

with_push : (bytes x : List ℕ) (xs : List (List ℕ)) → with_last bytes (xs ++ x ∷ []) ≡ xs ++ bytes ∷ []
with_push bytes x xs = set_at xs x [] bytes (length (xs ++ x ∷ []) - 1) (omega (arith, length-append xs (x ∷ [])))

none_push : (bytes none x : List ℕ) (xs : List (List ℕ)) → if_no_list bytes (xs ++ x ∷ []) none ≡ none
none_push bytes none x [] = refl
none_push bytes none x (y ∷ ys) = refl

-- the lists of the first t links, of which there is one
begins : (ms : List (List ℕ)) (t i : ℕ) → t ≡ i + 1 → i < length ms → take t ms ≡ take i ms ++ get_or ms i [] ∷ []
begins ms t i e lt = ap (λ (k : ℕ). take k ms) e ∙ take_more ms i [] lt

pub last_linked : (ms : List (List ℕ)) (t i : ℕ) (none : List ℕ) → t ≡ i + 1 → i < length ms → last_or none (take t ms) ≡ get_or ms i []
last_linked ms t i none e lt = ap (last_or none) (begins ms t i e lt) ∙ last_push none (get_or ms i []) (take i ms)

pub with_linked : (ms ns : List (List ℕ)) (t i : ℕ) (bytes : List ℕ) → t ≡ i + 1 → i < length ms → ns ≡ set ms i bytes → take t ns ≡ with_last bytes (take t ms)
with_linked ms ns t i bytes e lt is =
    ap (take t) is ∙ (ap (λ (k : ℕ). take k (set ms i bytes)) e ∙ take_more_set ms i bytes lt)
    ∙ sym (ap (with_last bytes) (begins ms t i e lt) ∙ with_push bytes (get_or ms i []) (take i ms))

pub none_linked : (ms : List (List ℕ)) (t i : ℕ) (bytes none : List ℕ) → t ≡ i + 1 → i < length ms → if_no_list bytes (take t ms) none ≡ none
none_linked ms t i bytes none e lt = ap (λ (l : List (List ℕ)). if_no_list bytes l none) (begins ms t i e lt) ∙ none_push bytes none (get_or ms i []) (take i ms)

-- ---- the same of links

pub last_link : (ls : List MemLink) (t i : ℕ) (none : List ℕ) → t ≡ i + 1 → i < length ls → last_or none (map link_written (take t ls)) ≡ get_or (map link_written ls) i []
last_link ls t i none e lt = ap (last_or none) (sym (take-map link_written t ls)) ∙ last_linked (map link_written ls) t i none e (omega (arith, length-map ls link_written, lt))

pub with_link : (ls ms : List MemLink) (t i : ℕ) (bytes : List ℕ) → t ≡ i + 1 → i < length ls → map link_written ms ≡ set (map link_written ls) i bytes → map link_written (take t ms) ≡ with_last bytes (map link_written (take t ls))
with_link ls ms t i bytes e lt is =
    sym (take-map link_written t ms) ∙ with_linked (map link_written ls) (map link_written ms) t i bytes e (omega (arith, length-map ls link_written, lt)) is
    ∙ ap (with_last bytes) (take-map link_written t ls)

pub none_link : (ls : List MemLink) (t i : ℕ) (bytes none : List ℕ) → t ≡ i + 1 → i < length ls → if_no_list bytes (map link_written (take t ls)) none ≡ none
none_link ls t i bytes none e lt = ap (λ (l : List (List ℕ)). if_no_list bytes l none) (sym (take-map link_written t ls)) ∙ none_linked (map link_written ls) t i bytes none e (omega (arith, length-map ls link_written, lt))

-- the links to come are those that they were
pub coming_same : (ls ms : List MemLink) (t : ℕ) → map link_bytes ms ≡ map link_bytes ls → map link_bytes (drop t ms) ≡ map link_bytes (drop t ls)
coming_same ls ms t e = sym (drop-map link_bytes t ms) ∙ (ap (drop t) e ∙ drop-map link_bytes t ls)

-- ---- one more link

pub coming_more : (ls : List MemLink) (l : MemLink) (t : ℕ) → t ≤ length ls → map link_bytes (drop t (ls ++ l ∷ [])) ≡ map link_bytes (drop t ls) ++ link_bytes l ∷ []
coming_more ls l t le = ap (map link_bytes) (drop-append-le t ls (l ∷ []) le) ∙ map_push link_bytes (drop t ls) l

pub taken_more : (ls : List MemLink) (l : MemLink) (t : ℕ) → t ≤ length ls → map link_written (take t (ls ++ l ∷ [])) ≡ map link_written (take t ls)
taken_more ls l t le = ap (map link_written) (take-append-le t ls (l ∷ []) le)

-- ---- a link is taken

pub first_coming : (ls : List MemLink) (t : ℕ) → get_or (map link_bytes (drop t ls)) 0 [] ≡ get_or (map link_bytes ls) t []
first_coming ls t = ap (λ (l : List (List ℕ)). get_or l 0 []) (sym (drop-map link_bytes t ls)) ∙ (get_or-drop t (map link_bytes ls) 0 [] ∙ ap (λ (k : ℕ). get_or (map link_bytes ls) k []) (omega arith))

pub rest_coming : (ls ms : List MemLink) (t u : ℕ) → u ≡ t + 1 → map link_bytes ms ≡ map link_bytes ls → map link_bytes (drop u ms) ≡ drop 1 (map link_bytes (drop t ls))
rest_coming ls ms t u e same =
    sym (drop-map link_bytes u ms) ∙ (ap (drop u) same ∙ (ap (λ (k : ℕ). drop k (map link_bytes ls)) e ∙ (sym (drop-drop 1 t (map link_bytes ls)) ∙ ap (drop 1) (drop-map link_bytes t ls))))

pub begun : (ls ms : List MemLink) (t u : ℕ) → u ≡ t + 1 → t < length ls → map link_written ms ≡ set (map link_written ls) t [] → map link_written (take u ms) ≡ map link_written (take t ls) ++ [] ∷ []
begun ls ms t u e lt is =
    sym (take-map link_written u ms) ∙ (ap (take u) is ∙ (ap (λ (k : ℕ). take k (set (map link_written ls) t [])) e ∙ (take_more_set (map link_written ls) t [] (omega (arith, length-map ls link_written, lt)) ∙ ap (λ (l : List (List ℕ)). l ++ [] ∷ []) (take-map link_written t ls))))

-- ---- one link is written to

pub same_set : (f : MemLink → List ℕ) (ls : List MemLink) (i : ℕ) (d : MemLink) → set (map f ls) i (f (get_or ls i d)) ≡ map f ls
same_set f ls i d = sym (map-set f ls i (get_or ls i d)) ∙ ap (map f) (set-get_or ls i d)

pub put_taken : (r : Option ℕ) (ls : List MemLink) (i : ℕ) (d x : MemLink) (piece : List ℕ) → i < length ls → IfSome r (λ n. (0 < n) × (n ≤ length piece) × (link_written x ≡ link_written (get_or ls i d) ++ take n piece))
    → IfSome r (λ n. (0 < n) × (n ≤ length piece) × (map link_written (set ls i x) ≡ set (map link_written ls) i (get_or (map link_written ls) i [] ++ take n piece)))
put_taken None ls i d x piece lt h = tt
put_taken (Some n) ls i d x piece lt h =
    (h.0, h.1, map-set link_written ls i x ∙ ap (set (map link_written ls) i) (h.2 ∙ ap (λ (l : List ℕ). l ++ take n piece) (sym (get_or-map link_written ls i d [] lt))))

pub put_full : (r : Option ℕ) (ls : List MemLink) (i : ℕ) (d x : MemLink) (room : ℕ) → i < length ls → IfNone r ((link_written x ≡ link_written (get_or ls i d)) × (room ≤ length (link_written (get_or ls i d))))
    → IfNone r ((map link_written (set ls i x) ≡ map link_written ls) × (room ≤ length (get_or (map link_written ls) i [])))
put_full None ls i d x room lt h =
    (map-set link_written ls i x ∙ (ap (set (map link_written ls) i) h.0 ∙ same_set link_written ls i d), omega (arith, ap length (get_or-map link_written ls i d [] lt), h.1))
put_full (Some n) ls i d x room lt h = tt
