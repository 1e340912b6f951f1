-- What a host in memory shows after each of its calls.
use Rattle.std.proofs.Common.{◌≡◌, ℕ, ◌+◌, ◌-◌, ◌<◌, ◌≤◌, min, List, [], ◌++◌, length, get_or, take, drop, map, set, Option, Some, None, Vec, refl, sym, ap, ◌∙◌, subst, arith, length-drop}
use Rattle.std.specs.Prelude.{IfSome, IfNone}
use Rattle.std.specs.Vec.{with_items}
use Rattle.std.proofs.lemmas.List.{length-map, take-map, with_items_is}
use Rattle.tl_base.specs.Contents.{Files}
use Rattle.tl_base.specs.Outside.{View, Left, Written, slot_part, with_slot, left_of, out_part, with_out, written_of, with_written, last_or, with_last, if_no_list}
use Rattle.tl_base.specs.Calls.{Gives}
use Rattle.tl_base.specs.MemoryContents.{link_bytes, link_written, origin_bytes, left_by, lefts, reading_of, with_reading}
use Rattle.tl_base.specs.declared.host.Slot.{Slot}
use Rattle.tl_base.specs.declared.host.Slot.TheVariants as slots
use Rattle.tl_base.specs.declared.host.Out.{Out}
use Rattle.tl_base.specs.declared.host.Out.TheVariants as outs
use Rattle.tl_base.specs.declared.mem_contents.MemFile.{MemFile}
use Rattle.tl_base.specs.declared.mem_contents.MemLink.{MemLink}
use Rattle.tl_base.specs.declared.mem_contents.Origin.{Origin}
use Rattle.tl_base.specs.declared.mem_contents.Origin.TheVariants.{Link}
use Rattle.tl_base.specs.declared.mem_contents.Readings.{Readings}
use Rattle.tl_base.proofs.Parts.{left_back}
use Rattle.tl_base.proofs.Opened.{part_is, lefts_set, lefts_same}
use Rattle.tl_base.proofs.Linked.{last_link, with_link, none_link, coming_same, first_coming}

-- the view with these files, slots, outs and links to come
abbrev pub with_these : View → Files → Left → Written → List (List ℕ) → View
with_these v files left written links = record v { files = files; left = left; written = written; links = links }

pub these : (v : View) (f f' : Files) (l l' : Left) (w w' : Written) (c c' : List (List ℕ)) → f ≡ f' → l ≡ l' → w ≡ w' → c ≡ c' → with_these v f l w c ≡ with_these v f' l' w' c'
these v f f' l l' w w' c c' p q r s =
    ap (λ (x : Files). with_these v x l w c) p ∙ (ap (λ (x : Left). with_these v f' x w c) q ∙ (ap (λ (x : Written). with_these v f' l' x c) r ∙ ap (λ (x : List (List ℕ)). with_these v f' l' w' x) s))

abbrev pub with_links : Written → List ℕ → List (List ℕ) → Written
with_links w unlinked links = record w { unlinked = unlinked; links = links }

two : (w : Written) (a b : List ℕ) (ls ms : List (List ℕ)) → a ≡ b → ls ≡ ms → with_links w a ls ≡ with_links w b ms
two w a b ls ms p q = ap (λ (x : List ℕ). with_links w x ls) p ∙ ap (with_links w b) q

-- ---- a slot gives bytes

pub given : (slot : Slot) (fs : List MemFile) (ls : List MemLink) (rs now : Readings) (v : View) (o : Origin) (at more n : ℕ) (into bytes : List ℕ) → v.left ≡ lefts fs ls rs → reading_of slot rs ≡ Some (record { origin = o; at = at })
    → now ≡ with_reading slot (record { origin = o; at = more }) rs → bytes ≡ origin_bytes fs ls o → drop at bytes ≡ take n into ++ drop more bytes → (n ≡ 0 → 0 < length into → drop more bytes ≡ [])
    → Gives slot into n v (record v { left = lefts fs ls now })
given slot fs ls rs now v o at more n into bytes is opened set_to from_there front end =
    let old : left_of slot v ≡ drop at (origin_bytes fs ls o) = ap (slot_part slot) is ∙ (part_is slot fs ls rs ∙ ap (left_by fs ls) opened) in
    let left : lefts fs ls now ≡ with_slot slot (drop more (origin_bytes fs ls o)) v.left =
    ap (lefts fs ls) set_to ∙ (lefts_set slot fs ls (record { origin = o; at = more }) rs ∙ ap (with_slot slot (drop more (origin_bytes fs ls o))) (sym is)) in
    let new : slot_part slot (lefts fs ls now) ≡ drop more (origin_bytes fs ls o) = ap (slot_part slot) left ∙ left_back slot (drop more (origin_bytes fs ls o)) v in (
      old ∙ (ap (drop at) (sym from_there) ∙ (front ∙ ap (λ (l : List ℕ). take n into ++ l) (ap (drop more) from_there ∙ sym new))),
      ap (λ (l : Left). record v { left = l }) (left ∙ ap (λ (b : List ℕ). with_slot slot b v.left) (sym new)),
      λ none some. new ∙ (ap (drop more) (sym from_there) ∙ end none some),
    )

-- ---- the out Link, after the first link

-- the last link has these bytes written to it
pub link_out : (out : Out) (w : Written) (ls ms : List MemLink) (t i : ℕ) (bytes : List ℕ) → out ≡ outs.Link → w.links ≡ map link_written (take t ls) → t ≡ i + 1 → i < length ls → map link_written ms ≡ set (map link_written ls) i bytes
    → with_links w w.unlinked (map link_written (take t ms)) ≡ with_out out bytes w
link_out out w ls ms t i bytes is links e lt written =
    two w w.unlinked (if_no_list bytes w.links w.unlinked) (map link_written (take t ms)) (with_last bytes w.links)
    (sym (ap (λ (l : List (List ℕ)). if_no_list bytes l w.unlinked) links ∙ none_link ls t i bytes w.unlinked e lt))
    (with_link ls ms t i bytes e lt written ∙ ap (with_last bytes) (sym links))
    ∙ ap (λ (o : Out). with_out o bytes w) (sym is)

pub link_bytes_written : (out : Out) (w : Written) (ls : List MemLink) (t i : ℕ) → out ≡ outs.Link → w.links ≡ map link_written (take t ls) → t ≡ i + 1 → i < length ls → out_part out w ≡ get_or (map link_written ls) i []
link_bytes_written out w ls t i is links e lt = ap (λ (o : Out). out_part o w) is ∙ (ap (last_or w.unlinked) links ∙ last_link ls t i w.unlinked e lt)

-- the view after the last link is written to
pub link_shown : (out : Out) (v : View) (fs : List MemFile) (rs : Readings) (ls ms : List MemLink) (t i : ℕ) (bytes : List ℕ) → out ≡ outs.Link → v.left ≡ lefts fs ls rs → v.links ≡ map link_bytes (drop t ls) → v.written.links ≡ map link_written (take t ls)
    → t ≡ i + 1 → i < length ls → map link_bytes ms ≡ map link_bytes ls → map link_written ms ≡ set (map link_written ls) i bytes
    → with_these v v.files (lefts fs ms rs) (with_links v.written v.written.unlinked (map link_written (take t ms))) (map link_bytes (drop t ms)) ≡ with_written out bytes v
link_shown out v fs rs ls ms t i bytes is left coming links e lt same written =
    these v _ _ _ _ _ _ _ _ refl (lefts_same fs ls ms rs same ∙ sym left) (link_out out v.written ls ms t i bytes is links e lt written) (coming_same ls ms t same ∙ sym coming)

put_shown_at : (r : Option ℕ) (out : Out) (v : View) (fs : List MemFile) (rs : Readings) (ls ms : List MemLink) (t i : ℕ) (piece : List ℕ) → out ≡ outs.Link → v.left ≡ lefts fs ls rs → v.links ≡ map link_bytes (drop t ls)
    → v.written.links ≡ map link_written (take t ls) → t ≡ i + 1 → i < length ls → map link_bytes ms ≡ map link_bytes ls
    → IfSome r (λ n. (0 < n) × (n ≤ length piece) × (map link_written ms ≡ set (map link_written ls) i (get_or (map link_written ls) i [] ++ take n piece)))
    → IfSome r (λ n. (0 < n) × (n ≤ length piece) × (with_these v v.files (lefts fs ms rs) (with_links v.written v.written.unlinked (map link_written (take t ms))) (map link_bytes (drop t ms)) ≡ with_written out (written_of out v ++ take n piece) v))
put_shown_at None out v fs rs ls ms t i piece is left coming links e lt same h = tt
put_shown_at (Some n) out v fs rs ls ms t i piece is left coming links e lt same h = (
  h.0,
  h.1,
  link_shown out v fs rs ls ms t i _ is left coming links e lt same h.2
      ∙ ap (λ (b : List ℕ). with_written out (b ++ take n piece) v) (sym (link_bytes_written out v.written ls t i is links e lt)),
)

pub put_shown : (r : Option ℕ) (out : Out) (v : View) (fs : List MemFile) (rs : Readings) (ls ms ws : List MemLink) (t i : ℕ) (piece : List ℕ) → ms ≡ ws → out ≡ outs.Link → v.left ≡ lefts fs ls rs → v.links ≡ map link_bytes (drop t ls)
    → v.written.links ≡ map link_written (take t ls) → t ≡ i + 1 → i < length ls → map link_bytes ws ≡ map link_bytes ls
    → IfSome r (λ n. (0 < n) × (n ≤ length piece) × (map link_written ws ≡ set (map link_written ls) i (get_or (map link_written ls) i [] ++ take n piece)))
    → IfSome r (λ n. (0 < n) × (n ≤ length piece) × (with_these v v.files (lefts fs ms rs) (with_links v.written v.written.unlinked (map link_written (take t ms))) (map link_bytes (drop t ms)) ≡ with_written out (written_of out v ++ take n piece) v))
put_shown r out v fs rs ls ms ws t i piece one is left coming links e lt same h =
    put_shown_at r out v fs rs ls ms t i piece is left coming links e lt (ap (map link_bytes) one ∙ same)
    (subst (λ (l : List MemLink). IfSome r (λ n. (0 < n) × (n ≤ length piece) × (map link_written l ≡ set (map link_written ls) i (get_or (map link_written ls) i [] ++ take n piece)))) (sym one) h)

pub put_counted : (r : Option ℕ) (out : Out) (v : View) (ls : List MemLink) (t i size : ℕ) → out ≡ outs.Link → v.written.links ≡ map link_written (take t ls) → t ≡ i + 1 → i < length ls
    → IfSome r (λ n. n ≡ min size (v.room - length (get_or (map link_written ls) i []))) → IfSome r (λ n. n ≡ min size (v.room - length (written_of out v)))
put_counted None out v ls t i size is links e lt h = tt
put_counted (Some n) out v ls t i size is links e lt h = h ∙ ap (λ (b : List ℕ). min size (v.room - length b)) (sym (link_bytes_written out v.written ls t i is links e lt))

put_filled_at : (r : Option ℕ) (out : Out) (v : View) (fs : List MemFile) (rs : Readings) (ls ms : List MemLink) (t i : ℕ) → out ≡ outs.Link → v.left ≡ lefts fs ls rs → v.links ≡ map link_bytes (drop t ls)
    → v.written.links ≡ map link_written (take t ls) → t ≡ i + 1 → i < length ls → map link_bytes ms ≡ map link_bytes ls
    → IfNone r ((map link_written ms ≡ map link_written ls) × (v.room ≤ length (get_or (map link_written ls) i [])))
    → IfNone r ((with_these v v.files (lefts fs ms rs) (with_links v.written v.written.unlinked (map link_written (take t ms))) (map link_bytes (drop t ms)) ≡ v) × (v.room ≤ length (written_of out v)))
put_filled_at None out v fs rs ls ms t i is left coming links e lt same h = (
  these v _ _ _ _ _ _ _ _ refl (lefts_same fs ls ms rs same ∙ sym left) (ap (with_links v.written v.written.unlinked) (sym (take-map link_written t ms) ∙ (ap (take t) h.0 ∙ (take-map link_written t ls ∙ sym links)))) (coming_same ls ms t same ∙ sym coming),
  omega (arith, h.1, ap length (link_bytes_written out v.written ls t i is links e lt)),
)
put_filled_at (Some n) out v fs rs ls ms t i is left coming links e lt same h = tt

pub put_filled : (r : Option ℕ) (out : Out) (v : View) (fs : List MemFile) (rs : Readings) (ls ms ws : List MemLink) (t i : ℕ) → ms ≡ ws → out ≡ outs.Link → v.left ≡ lefts fs ls rs → v.links ≡ map link_bytes (drop t ls)
    → v.written.links ≡ map link_written (take t ls) → t ≡ i + 1 → i < length ls → map link_bytes ws ≡ map link_bytes ls
    → IfNone r ((map link_written ws ≡ map link_written ls) × (v.room ≤ length (get_or (map link_written ls) i [])))
    → IfNone r ((with_these v v.files (lefts fs ms rs) (with_links v.written v.written.unlinked (map link_written (take t ms))) (map link_bytes (drop t ms)) ≡ v) × (v.room ≤ length (written_of out v)))
put_filled r out v fs rs ls ms ws t i one is left coming links e lt same h =
    put_filled_at r out v fs rs ls ms t i is left coming links e lt (ap (map link_bytes) one ∙ same)
    (subst (λ (l : List MemLink). IfNone r ((map link_written l ≡ map link_written ls) × (v.room ≤ length (get_or (map link_written ls) i [])))) (sym one) h)

-- the elements of a vector whose slice was written to
pub written_back : {X Z : Type 0} (v : Vec X Z) (ws : List X) → length ws ≡ length v.items → (with_items v ws).items ≡ ws
written_back v ws len = with_items_is v ws (len ∙ sym v.ok.0)

-- ---- a link is taken

pub link_left : (fs : List MemFile) (ls ms : List MemLink) (rs now : Readings) (t : ℕ) → now ≡ with_reading slots.Link (record { origin = Link t; at = 0 }) rs → map link_bytes ms ≡ map link_bytes ls
    → lefts fs ms now ≡ with_slot slots.Link (get_or (map link_bytes (drop t ls)) 0 []) (lefts fs ls rs)
link_left fs ls ms rs now t set_to same =
    lefts_same fs ls ms now same ∙ (ap (lefts fs ls) set_to ∙ (lefts_set slots.Link fs ls (record { origin = Link t; at = 0 }) rs ∙ ap (λ (b : List ℕ). with_slot slots.Link b (lefts fs ls rs)) (sym (first_coming ls t))))

pub has_coming : (ls : List MemLink) (t : ℕ) → t < length ls → 0 < length (map link_bytes (drop t ls))
has_coming ls t lt = omega (arith, length-map (drop t ls) link_bytes, length-drop t ls, lt)
