-- A value that bytes spell has texts of bytes; and packets of messages with texts of bytes are of bytes.
use Rattle.std.proofs.Common.{ℕ, ◌+◌, List, [], ◌∷◌, ◌++◌, length, replicate, refl, sym, subst, inl, inr}
use Rattle.tl_numbers.specs.Bytes.{AreBytes}
use Rattle.tl_numbers.specs.Numbers.{word}
use Rattle.tl_numbers.proofs.Spelled.{words}
use Rattle.tl_base.specs.Packets.{packet}
use Rattle.tl_schema.specs.Types.{Shape}
use Rattle.tl_schema.specs.Schemas.{Slot, Declared}
use Rattle.tl_types.specs.Values.{ValueView, int, long, nat, opaque, text, truth, absent, list, node, call, ValueViews, no_values, value, count}
use Rattle.tl_types.specs.Texts.{missing, text_bytes, text_head}
use Rattle.tl_types.specs.Spelling.{vector_prefix, Spells, SpellEach, SpellFields}
use Rattle.tl_types.proofs.Numbers.{bytes_after}
use Rattle.box_events.specs.declared.requests.Numbered.{Numbered}
use Rattle.box_world.specs.Agreeing.{Each}
use Rattle.wire_profile.specs.Indexes.{ProfileView, cell_shape, form_at, number_at}
use Rattle.wire_profile.specs.Renaming.{renamed, renamed_each}
use Rattle.wire_profile.specs.SpelledForms.{placed}
use Rattle.wire_values.specs.Calls.{call_tree}
use Rattle.box_wire.specs.Framing.{Framed}
use Rattle.box_wire.specs.Kinds.{Kind}
use Rattle.update_sessions.specs.Packed.{MeansCall, Packed}
use Rattle.session_commands.proofs.JsonBytes.{bytes_joined, no_bytes}
use Rattle.session_commands.proofs.OneReply.{bytes_first}
use Rattle.session_commands.proofs.SpelledBytes.{ValueHolds, ValuesHold, spelled_are}

text_within : (s : List ℕ) → AreBytes (text_bytes s) → AreBytes s
text_within s are =
    let n : ℕ = length s in
    bytes_after (text_head n ++ s) (text_head n) s refl (bytes_first (text_head n ++ s) (replicate (missing (length (text_head n) + n)) 0) are)

-- ---- a value that bytes spell

module _ (schema : Declared) where
  mutual
    pub texts_are : (v : ValueView) (T : Shape) (b : List ℕ) → Spells schema T v b → AreBytes b → ValueHolds v
    texts_are (int z) T b s are = tt
    texts_are (long z) T b s are = tt
    texts_are (nat n) T b s are = tt
    texts_are (opaque s) T b (kind, is) are = subst AreBytes is are
    texts_are (text s) T b (kind, few, is) are = text_within s (subst AreBytes is are)
    texts_are truth T b s are = tt
    texts_are absent T b s are = tt
    texts_are (list vs) T b (is_boxed, item, rest, kind, few, is, each) are = each_are vs item rest each (bytes_after b (vector_prefix is_boxed ++ word (count vs)) rest is are)
    texts_are (node i vs) T b (d, args, prefix, rest, begins, is, fields) are = fields_are vs _ [] d.fields rest fields (bytes_after b prefix rest is are)
    texts_are (call i vs) T b (d, rest, kind, function, is, fields) are = fields_are vs [] [] d.fields rest fields (bytes_after b (word d.number) rest is are)

    each_are : (vs : ValueViews) (T : Shape) (b : List ℕ) → SpellEach schema T vs b → AreBytes b → ValuesHold vs
    each_are no_values T b is are = tt
    each_are (value v vs) T b (x, y, is, first, rest) are = (texts_are v T x first (bytes_first x y (subst AreBytes is are)), each_are vs T y rest (bytes_after b x y is are))

    fields_are : (vs : ValueViews) (args : List Shape) (before : List ValueView) (fs : List Slot) (b : List ℕ) → SpellFields schema args before fs vs b → AreBytes b → ValuesHold vs
    fields_are no_values args before fs b s are = tt
    fields_are (value v vs) args before [] b none are = absurd none
    fields_are (value v vs) args before (f ∷ fs) b (x, y, is, inl (set, first), rest) are =
        (texts_are v _ x first (bytes_first x y (subst AreBytes is are)), fields_are vs args (before ++ v ∷ []) fs y rest (bytes_after b x y is are))
    fields_are (value v vs) args before (f ∷ fs) b (x, y, is, inr (clear, gone, none), rest) are = (subst ValueHolds (sym gone) tt, fields_are vs args (before ++ v ∷ []) fs y rest (bytes_after b x y is are))

-- ---- other numbers in a value leave its texts

mutual
  pub renamed_holds : (f : ℕ → ℕ) (v : ValueView) → ValueHolds v → ValueHolds (renamed f v)
  renamed_holds f (int z) h = tt
  renamed_holds f (long z) h = tt
  renamed_holds f (nat n) h = tt
  renamed_holds f (opaque s) h = h
  renamed_holds f (text s) h = h
  renamed_holds f truth h = tt
  renamed_holds f absent h = tt
  renamed_holds f (list vs) h = each_renamed f vs h
  renamed_holds f (node i vs) h = each_renamed f vs h
  renamed_holds f (call i vs) h = each_renamed f vs h

  each_renamed : (f : ℕ → ℕ) (vs : ValueViews) → ValuesHold vs → ValuesHold (renamed_each f vs)
  each_renamed f no_values h = tt
  each_renamed f (value v vs) h = (renamed_holds f v h.0, each_renamed f vs h.1)

-- ---- messages

pub call_texts : (p : ProfileView) (c : Numbered) (b : List ℕ) → AreBytes b → MeansCall p c b → ValueHolds (call_tree c)
call_texts p c b are means = subst ValueHolds means.same (renamed_holds (form_at p.indexes) means.v (texts_are p.schema means.v _ b means.spelled.0 are))

module _ {M : Type 0} (kind : Kind) (tree : M → ValueView) (p : ProfileView) where
  pub packed_are : (ms : List M) (bytes : List ℕ) → Each (λ m. ValueHolds (tree m)) ms → Packed (λ m b. Framed p kind (tree m) b) ms bytes → AreBytes bytes
  packed_are [] bytes all is = subst AreBytes (sym is) no_bytes
  packed_are (m ∷ ms) bytes all (b, rest, spells, is, more) =
      let body : AreBytes b = spelled_are p.schema (placed p (tree m)) (cell_shape p kind.cell) b spells (renamed_holds (number_at p.indexes) (tree m) all.0) in
      subst AreBytes (sym is) (bytes_joined (packet b) rest (bytes_joined (word (length b)) b (words.bytes (length b)) body) (packed_are ms rest all.1 more))
