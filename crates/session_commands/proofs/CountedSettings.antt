-- No more settings are brought than bytes, by a frame and by a saved client.
use Rattle.std.specs.Prelude.{nat_le, if◌then◌else◌, IsTrue}
use Rattle.std.proofs.Common.{◌≡◌, ℕ, zero, suc, ◌+◌, ◌<◌, ◌≤◌, List, [], ◌∷◌, ◌++◌, length, length-append, replicate, Bool, true, false, refl, sym, ap, arith}
use Rattle.tl_types.specs.Texts.{missing, text_bytes, text_head, three_bytes}
use Rattle.tl_types.specs.Values.{ValueView, text, ValueViews, no_values, value, count}
use Rattle.box_events.specs.declared.replies.Frame.{Frame}
use Rattle.box_events.specs.declared.saved.Saved.{Saved}
use Rattle.wire_forms.specs.declared.form.Cell.{Cell}
use Rattle.wire_forms.specs.declared.form.Cell.TheVariants.{Whole, Body, Bodies, Key, Many, One, Bare, ManyBare}
use Rattle.wire_forms.specs.declared.numbers.TheConstants.{CHANNEL, CLIENT_TYPE, DIFFERENCE_TYPE, FRAME_TYPE, LANE, SETTING, STATE_TYPE, UPDATE_TYPE}
use Rattle.wire_forms.specs.Forms.{forms, constructs, cells_of}
use Rattle.wire_forms.specs.IsOf.{AreOf, EachOf, IsOf}
use Rattle.wire_forms.specs.Parts.{at, each, entry_of, first, parts_of}
use Rattle.wire_forms.proofs.Cells.{bare_are, field_at, many_are}
use Rattle.wire_forms.proofs.Records.{by_member, length_each, opened, opened_bare}
use Rattle.wire_profile.specs.Indexes.{ProfileView}
use Rattle.wire_profile.specs.Profiles.{IsProfile}
use Rattle.wire_profile.specs.SpelledForms.{owned}
use Rattle.wire_values.specs.Carried.{IsSaved}
use Rattle.wire_values.specs.CarriedFrames.{IsFrame}
use Rattle.wire_values.specs.Frames.{difference_at, frame_at, frame_in, frame_tree}
use Rattle.wire_values.specs.Others.{is_setting, settings_of}
use Rattle.wire_values.specs.SavedClients.{saved_at, saved_in, saved_tree}
use Rattle.wire_values.specs.Updates.{setting_in}
use Rattle.box_wire.specs.Kinds.{frames, saved_clients}
use Rattle.box_wire.specs.Framing.{Means}
use Rattle.box_wire.proofs.FrameLaws.{frame_laws}
use Rattle.box_wire.proofs.SavedLaws.{saved_laws}
use Rattle.box_world.specs.Sizes.{fields_size, size_in, sizes_of}
use Rattle.box_world.proofs.Lengths.{has_size}
use Rattle.box_world.proofs.SpelledMessages.{read_of}
use Rattle.update_sessions.specs.Packed.{MeansFrame}
use Rattle.session_commands.proofs.GoingClients.{brought_by}
use Rattle.session_commands.proofs.LowClients as low

-- ---- parts

abbrev cell_at : ℕ → List Cell → Cell
cell_at i [] = Whole
cell_at zero (c ∷ cs) = c
cell_at (suc i) (c ∷ cs) = cell_at i cs

none_at : (i : ℕ) (c : Cell) → size_in c (at i no_values) ≡ 0
none_at zero c = refl
none_at (suc i) c = none_at i c

-- a record has the bytes of each of its parts
part_size : (i : ℕ) (cs : List Cell) (vs : ValueViews) → i < length cs → size_in (cell_at i cs) (at i vs) ≤ fields_size cs vs
part_size i [] vs lt = absurd (omega (arith, lt))
part_size zero (c ∷ cs) no_values lt = omega arith
part_size zero (c ∷ cs) (value v vs) lt = omega arith
part_size (suc i) (c ∷ cs) no_values lt = (let none = none_at i (cell_at i cs) in omega (arith, none))
part_size (suc i) (c ∷ cs) (value v vs) lt = (let more = part_size i cs vs (omega (arith, lt)) in omega (arith, more))

each_least : (c : Cell) → ((t : ValueView) → IsOf c t → 1 ≤ size_in c t) → (ts : ValueViews) → EachOf c ts → count ts ≤ sizes_of c ts
each_least c law no_values all = omega arith
each_least c law (value t ts) all =
    let one = law t all.0 in
    let more = each_least c law ts all.1 in
    omega (arith, one, more)

node_size : (h : ℕ) (t : ValueView) → IsOf (One h) t → size_in (One h) t ≡ 4 + fields_size (cells_of (entry_of t)) (parts_of t)
node_size h t s = ap (λ (v : ValueView). size_in (One h) v) (opened h t s).is

node_least : (h : ℕ) (t : ValueView) → IsOf (One h) t → 1 ≤ size_in (One h) t
node_least h t s = let size = node_size h t s in omega (arith, size)

many_least : (h : ℕ) (t : ValueView) → IsOf (Many h) t → count (parts_of t) ≤ size_in (Many h) t
many_least h t s =
    let are = many_are h t s in
    let size : size_in (Many h) t ≡ 8 + sizes_of (One h) (parts_of t) = ap (λ (v : ValueView). size_in (Many h) v) (sym are.0) in
    let least = each_least (One h) (node_least h) (parts_of t) are.1 in
    omega (arith, size, least)

-- ---- settings of a difference

kept_step : (b : Bool) (t : ValueView) (ts : ValueViews) (n : ℕ) → count ts ≤ n → count (if b then value t ts else ts) ≤ suc n
kept_step true t ts n le = omega (arith, le)
kept_step false t ts n le = omega (arith, le)

kept_few : (ts : ValueViews) → count (settings_of ts) ≤ count ts
kept_few no_values = omega arith
kept_few (value t ts) = kept_step (is_setting t) t (settings_of ts) (count ts) (kept_few ts)

abbrev difference_cells : List Cell
difference_cells = Bodies ∷ Bodies ∷ Many UPDATE_TYPE ∷ One STATE_TYPE ∷ []

difference_few : (ts : ValueViews) → AreOf (first ts) difference_cells ts → length (each setting_in (settings_of (parts_of (at 2 ts)))) ≤ fields_size difference_cells ts
difference_few ts s =
    let long = length_each setting_in (settings_of (parts_of (at 2 ts))) in
    let few = kept_few (parts_of (at 2 ts)) in
    let least = many_least UPDATE_TYPE (at 2 ts) (field_at (first ts) 2 difference_cells ts s) in
    let part : size_in (Many UPDATE_TYPE) (at 2 ts) ≤ fields_size difference_cells ts = part_size 2 difference_cells ts (omega arith) in
    omega (arith, long, few, least, part)

abbrev FewInDifference : ℕ → List Cell → Type 0
FewInDifference k cs = (ts : ValueViews) → AreOf (first ts) cs ts → low.settings_of (difference_at k ts) ≤ fields_size cs ts

difference_forms : (k : ℕ) → IsTrue (constructs DIFFERENCE_TYPE k) → FewInDifference k (cells_of k)
unfolding forms
difference_forms = by_member FewInDifference DIFFERENCE_TYPE ((λ ts s. omega arith), (difference_few, ((λ ts s. omega arith), tt)))

difference_least : (t : ValueView) → IsOf (One DIFFERENCE_TYPE) t → low.settings_of (difference_at (entry_of t) (parts_of t)) ≤ size_in (One DIFFERENCE_TYPE) t
difference_least t s =
    let o = opened DIFFERENCE_TYPE t s in
    let size = node_size DIFFERENCE_TYPE t s in
    let few = difference_forms (entry_of t) o.member (parts_of t) o.fields in
    omega (arith, size, few)

-- ---- frames

reply_few : (ts : ValueViews) → AreOf (first ts) (Whole ∷ One DIFFERENCE_TYPE ∷ []) ts → low.settings_of (difference_at (entry_of (at 1 ts)) (parts_of (at 1 ts))) ≤ fields_size (Whole ∷ One DIFFERENCE_TYPE ∷ []) ts
reply_few ts s =
    let least = difference_least (at 1 ts) (field_at (first ts) 1 (Whole ∷ One DIFFERENCE_TYPE ∷ []) ts s) in
    let part : size_in (One DIFFERENCE_TYPE) (at 1 ts) ≤ fields_size (Whole ∷ One DIFFERENCE_TYPE ∷ []) ts = part_size 1 (Whole ∷ One DIFFERENCE_TYPE ∷ []) ts (omega arith) in
    omega (arith, least, part)

abbrev FewInFrame : ℕ → List Cell → Type 0
FewInFrame k cs = (ts : ValueViews) → AreOf (first ts) cs ts → brought_by (frame_at k ts) ≤ fields_size cs ts

frame_forms : (k : ℕ) → IsTrue (constructs FRAME_TYPE k) → FewInFrame k (cells_of k)
unfolding forms
frame_forms = by_member FewInFrame FRAME_TYPE ((λ ts s. omega arith), ((λ ts s. omega arith), (reply_few, ((λ ts s. omega arith), ((λ ts s. omega arith), ((λ ts s. omega arith), tt))))))

frame_least : (t : ValueView) → IsOf (One FRAME_TYPE) t → brought_by (frame_in t) ≤ size_in (One FRAME_TYPE) t
frame_least t s =
    let o = opened FRAME_TYPE t s in
    let size = node_size FRAME_TYPE t s in
    let few = frame_forms (entry_of t) o.member (parts_of t) o.fields in
    omega (arith, size, few)

pub frame_brings : (p : ProfileView) → IsProfile p → (f : Frame) (b : List ℕ) → MeansFrame p f b → brought_by f ≤ length b
frame_brings p good f b (is, means) =
    let r = read_of frames frame_tree frame_in IsFrame frame_laws p good f b is means in
    let size = has_size p good means.v frames.cell b frame_laws.alone means.spelled.0 r.kind_is in
    let few = frame_least (owned p means.v) r.kind_is in
    let same : brought_by (frame_in (owned p means.v)) ≡ brought_by f = ap (λ (x : Frame). brought_by x) r.message in
    omega (arith, size, few, same)

-- ---- saved clients

text_head_least : (b : Bool) (n : ℕ) → 1 ≤ length (if b then n ∷ [] else 254 ∷ three_bytes n)
text_head_least true n = omega arith
text_head_least false n = omega arith

text_least : (s : List ℕ) → 1 ≤ length (text_bytes s)
text_least s =
    let head = text_head_least (nat_le (length s) 253) (length s) in
    let inner = length-append (text_head (length s)) s in
    let outer = length-append (text_head (length s) ++ s) (replicate (missing (length (text_head (length s)) + length s)) 0) in
    omega (arith, head, inner, outer)

key_least : (t : ValueView) → IsOf Key t → 1 ≤ size_in Key t
key_least (text s) is = text_least s
key_least t is = absurd is

setting_least : (t : ValueView) → IsOf (Bare SETTING) t → 1 ≤ size_in (Bare SETTING) t
unfolding forms
setting_least t s =
    let o = opened_bare SETTING t s in
    let size : size_in (Bare SETTING) t ≡ 0 + fields_size (Key ∷ Body ∷ []) (parts_of t) = ap (λ (v : ValueView). size_in (Bare SETTING) v) o.0 in
    let key = key_least (at 0 (parts_of t)) (field_at (first (parts_of t)) 0 (Key ∷ Body ∷ []) (parts_of t) o.1) in
    let part : size_in Key (at 0 (parts_of t)) ≤ fields_size (Key ∷ Body ∷ []) (parts_of t) = part_size 0 (Key ∷ Body ∷ []) (parts_of t) (omega arith) in
    omega (arith, size, key, part)

abbrev client_cells : List Cell
client_cells = Whole ∷ Whole ∷ Bare LANE ∷ Bare LANE ∷ Whole ∷ Whole ∷ ManyBare SETTING ∷ ManyBare CHANNEL ∷ []

client_few : (ts : ValueViews) → AreOf (first ts) client_cells ts → length (each setting_in (parts_of (at 6 ts))) ≤ fields_size client_cells ts
client_few ts s =
    let long = length_each setting_in (parts_of (at 6 ts)) in
    let are = bare_are SETTING (at 6 ts) (field_at (first ts) 6 client_cells ts s) in
    let size : size_in (ManyBare SETTING) (at 6 ts) ≡ 8 + sizes_of (Bare SETTING) (parts_of (at 6 ts)) = ap (λ (v : ValueView). size_in (ManyBare SETTING) v) (sym are.0) in
    let least = each_least (Bare SETTING) setting_least (parts_of (at 6 ts)) are.1 in
    let part : size_in (ManyBare SETTING) (at 6 ts) ≤ fields_size client_cells ts = part_size 6 client_cells ts (omega arith) in
    omega (arith, long, size, least, part)

abbrev FewInClient : ℕ → List Cell → Type 0
FewInClient k cs = (ts : ValueViews) → AreOf (first ts) cs ts → length (saved_at ts).settings ≤ fields_size cs ts

client_forms : (k : ℕ) → IsTrue (constructs CLIENT_TYPE k) → FewInClient k (cells_of k)
unfolding forms
client_forms = by_member FewInClient CLIENT_TYPE (client_few, tt)

saved_least : (t : ValueView) → IsOf (One CLIENT_TYPE) t → length (saved_in t).settings ≤ size_in (One CLIENT_TYPE) t
saved_least t s =
    let o = opened CLIENT_TYPE t s in
    let size = node_size CLIENT_TYPE t s in
    let few = client_forms (entry_of t) o.member (parts_of t) o.fields in
    omega (arith, size, few)

pub saved_brings : (p : ProfileView) → IsProfile p → (s : Saved) (b : List ℕ) → IsSaved s → Means p saved_clients (saved_tree s) b → length s.settings ≤ length b
saved_brings p good s b is means =
    let r = read_of saved_clients saved_tree saved_in IsSaved saved_laws p good s b is means in
    let size = has_size p good means.v saved_clients.cell b saved_laws.alone means.spelled.0 r.kind_is in
    let few = saved_least (owned p means.v) r.kind_is in
    let same : length (saved_in (owned p means.v)).settings ≡ length s.settings = ap (λ (x : Saved). length x.settings) r.message in
    omega (arith, size, few, same)
