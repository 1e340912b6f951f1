-- The parts of a line, put one after the other.
use Rattle.std.proofs.Common.{◌≡◌, ℕ, ◌+◌, ◌<◌, ◌≤◌, List, [], ◌∷◌, ◌++◌, drop, length, get_or, Bool, true, false, Option, Some, None, string_bytes, sym, ap, ap₂, subst, ◌∙◌, refl, append_assoc}
use Rattle.std.specs.Prelude.{if◌then◌else◌, slice_get}
use Rattle.std.specs.Str.{IsUtf8}
use Rattle.std.proofs.lemmas.List.{drop_all, drop_more}
use Rattle.json.specs.Print.{escape_byte, quoted}
use Rattle.serde_json.specs.Data.{Data, string, Items, array, Members, object}
use Rattle.serde_json.specs.Written.{comma_if, compact_text, items_text, members_text}
use Rattle.tl_schema.specs.Types.{Shape}
use Rattle.tl_types.specs.Parts.{item_of}
use Rattle.tl_types.specs.Values.{ValueView, ValueViews, list, text}
use Rattle.tl_types.specs.Seen.{view, views}
use Rattle.tl_types.specs.declared.value.Value.{Value}
use Rattle.tl_show.specs.Shown.{hex_data, is_string, string_data, text_data}
use Rattle.tl_show.specs.declared.form.Key.{Key}
use Rattle.tl_show.specs.inner.Forms.{FormView, Reads, form_in, last_of, members_at, members_of, record_by, with_part, written, written_each}
use Rattle.tl_show.specs.inner.FormViews.{key_views, parts_view}
use Rattle.tl_show.specs.inner.Lines.{PutsMember, key_text, later_after, member_text}
use Rattle.tl_show.proofs.Putting.{Leads, leads_end, leads_first, leads_more, same_put}
use Rattle.tl_show.proofs.Strings.{as_hex, as_text}

regroup : (c q t m : List ℕ) → c ++ (q ++ 58 ∷ (t ++ m)) ≡ ((c ++ (q ++ 58 ∷ [])) ++ t) ++ m
regroup c q t m = simp append_assoc

member_first : (later : Bool) (k : List ℕ) (d : Option Data) (ms : Members) → members_text later (with_part k d ms) ≡ member_text later k d ++ members_text (later_after later d) ms
member_first later k None ms = refl
member_first later k (Some d) ms = regroup (comma_if later) (quoted k) (compact_text d) (members_text true ms)

drop_at : {X : Type 0} (xs : List X) (i : ℕ) (x : X) → i < length xs → x ≡ get_or xs i x → drop i xs ≡ x ∷ drop (i + 1) xs
drop_at xs i x within is = drop_more xs i x within ∙ ap (λ y. y ∷ drop (i + 1) xs) (sym is)

module _ {S : Type 0} (puts : S → S → List ℕ → Type 0) where
  -- a record of the form at this index
  pub record_written : (old new : S) (fs : List FormView) (i : ℕ) (args : List Shape) (at : Reads) (f : FormView) → form_in (slice_get fs i) ≡ f
      → puts old new (compact_text (object (members_of f args at))) → puts old new (compact_text (record_by fs i args at))
  record_written old new fs i args at f same written = let P : FormView → Type 0 = λ g. puts old new (compact_text (object (members_of g args at))) in subst P (sym same) written

  pub first_item : (old new : S) (ds : Items) → puts old new (91 ∷ []) → Leads puts old new (items_text false ds) (compact_text (array ds))
  first_item old new ds put = leads_first puts old new (91 ∷ []) (items_text false ds) (compact_text (array ds)) put refl

  pub first_member : (old new : S) (ms : Members) → puts old new (123 ∷ []) → Leads puts old new (members_text false ms) (compact_text (object ms))
  first_member old new ms put = leads_first puts old new (123 ∷ []) (members_text false ms) (compact_text (object ms)) put refl

  module _ (both : (x y z : S) (a b : List ℕ) → puts x y a → puts y z b → puts x z (a ++ b)) where
    pub next_item : (fs : List FormView) (T : Shape) (vs : List Value) (i : ℕ) (x : Value) (start old mid new : S) (later : Bool) (whole : List ℕ) → i < length vs → x ≡ get_or vs i x
        → puts old mid (comma_if later) → puts mid new (compact_text (written fs T (view x))) → Leads puts start old (items_text later (written_each fs T (views (drop i vs)))) whole
        → Leads puts start new (items_text true (written_each fs T (views (drop (i + 1) vs)))) whole
    next_item fs T vs i x start old mid new later whole within is comma value leads =
        let text = compact_text (written fs T (view x)) in
        let rest = items_text true (written_each fs T (views (drop (i + 1) vs))) in
        let split : items_text later (written_each fs T (views (drop i vs))) ≡ comma_if later ++ (text ++ rest) = ap (λ l. items_text later (written_each fs T (views l))) (drop_at vs i x within is) in
        leads_more puts both start mid new text (text ++ rest) rest whole (leads_more puts both start old mid (comma_if later) _ (text ++ rest) whole leads comma split) value refl

    pub last_item : (fs : List FormView) (T : Shape) (vs : List Value) (i : ℕ) (start old new : S) (later : Bool) (whole : List ℕ) → length vs ≤ i → puts old new (93 ∷ [])
        → Leads puts start old (items_text later (written_each fs T (views (drop i vs)))) whole → puts start new whole
    last_item fs T vs i start old new later whole past closes leads =
        leads_end puts both start old new _ whole leads (same_put puts old new _ (93 ∷ []) (ap (λ l. items_text later (written_each fs T (views l))) (drop_all i vs past)) closes)

    pub next_member : (n : List ℕ) (args : List Shape) (at : Reads) (ks : List Key) (i : ℕ) (k : Key) (start old new : S) (later now : Bool) (whole : List ℕ) → i < length ks → k ≡ get_or ks i k
        → PutsMember puts now later old new (string_bytes k.name) (last_of n args at (parts_view k.parts)) → Leads puts start old (members_text later (members_at n args at (key_views (drop i ks)))) whole
        → Leads puts start new (members_text now (members_at n args at (key_views (drop (i + 1) ks)))) whole
    next_member n args at ks i k start old new later now whole within is member leads =
        let d = last_of n args at (parts_view k.parts) in
        let rest = members_at n args at (key_views (drop (i + 1) ks)) in
        let split = ap (λ l. members_text later (members_at n args at (key_views l))) (drop_at ks i k within is) ∙ member_first later (string_bytes k.name) d rest
        ∙ ap (λ b. member_text later (string_bytes k.name) d ++ members_text b rest) (sym member.0) in
        leads_more puts both start old new (member_text later (string_bytes k.name) d) _ (members_text now rest) whole leads member.1 split

    -- the name of the declaration
    pub title_written : (later : Bool) (old mid new : S) (k n title : List ℕ) (d : Option Data) → d ≡ Some (string n) → title ≡ quoted n → puts old mid (key_text later k) → puts mid new title
        → PutsMember puts true later old new k d
    title_written later old mid new k n title d is same key put = rw is (refl, both old mid new (key_text later k) (quoted n) key (rw same at put))

    pub last_member : (n : List ℕ) (args : List Shape) (at : Reads) (ks : List Key) (i : ℕ) (start old new : S) (later : Bool) (whole : List ℕ) → length ks ≤ i → puts old new (125 ∷ [])
        → Leads puts start old (members_text later (members_at n args at (key_views (drop i ks)))) whole → puts start new whole
    last_member n args at ks i start old new later whole past closes leads =
        leads_end puts both start old new _ whole leads (same_put puts old new _ (125 ∷ []) (ap (λ l. members_text later (members_at n args at (key_views l))) (drop_all i ks past)) closes)

  pub nothing_written : (later : Bool) (old : S) (k : List ℕ) (d : Option Data) → puts old old [] → d ≡ None → PutsMember puts later later old old k d
  nothing_written later old k d put none = rw none (refl, put)

  pub text_written : (old new : S) (s t : List ℕ) → t ≡ s → IsUtf8 s → puts old new (quoted t) → puts old new (compact_text (string_data s))
  text_written old new s t same good put = same_put puts old new _ _ (ap compact_text (sym (as_text s good)) ∙ ap quoted (sym same)) put

pub empty_record : (fs : List FormView) (i : ℕ) (args : List Shape) (at : Reads) → slice_get fs i ≡ None → compact_text (record_by fs i args at) ≡ 123 ∷ 34 ∷ 95 ∷ 34 ∷ 58 ∷ 34 ∷ 34 ∷ 125 ∷ []
unfolding escape_byte
empty_record fs i args at none = ap (λ f. compact_text (object (members_of (form_in f) args at))) none

pub hex_opening : (s : List ℕ) → (IsUtf8 s → ⊥) → compact_text (string_data s) ≡ (123 ∷ 34 ∷ 104 ∷ 101 ∷ 120 ∷ 34 ∷ 58 ∷ []) ++ (compact_text (hex_data s) ++ 125 ∷ [])
unfolding escape_byte
hex_opening s bad = ap compact_text (sym (as_hex s bad))

-- ---- texts and lists of a type that a variable may stand for

pub text_same : (fs : List FormView) (T U : Shape) (v : ValueView) (s t : List ℕ) → v ≡ text s → t ≡ s → is_string T ≡ is_string U → compact_text (written fs T v) ≡ compact_text (text_data U t)
text_same fs T U v s t is same alike =
    ap (λ x. compact_text (written fs T x)) is ∙ ap (λ (b : Bool). compact_text (if b then string_data s else hex_data s)) alike ∙ ap (λ l. compact_text (text_data U l)) (sym same)

pub list_same : (fs : List FormView) (T I : Shape) (v : ValueView) (vs ws : ValueViews) → v ≡ list vs → ws ≡ vs → item_of T ≡ I → compact_text (written fs T v) ≡ compact_text (array (written_each fs I ws))
list_same fs T I v vs ws is same inner =
    ap (λ x. compact_text (written fs T x)) is ∙ ap₂ (λ (U : Shape) (xs : ValueViews). compact_text (array (written_each fs U xs))) inner (sym same)
