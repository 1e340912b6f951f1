-- Sizes of texts, of lists, and of what a box's events and settings become.
use Rattle.std.specs.Prelude.{◌-◌, zero, nat_le, leb, replicate, if◌then◌else◌}
use Rattle.std.proofs.Common.{◌≡◌, ℕ, suc, ◌+◌, ◌*◌, ◌≤◌, ℤ, List, [], ◌∷◌, ◌++◌, length, length-append, Bool, true, false, refl, arith}
use Rattle.std.specs.List.{All, sum_by}
use Rattle.std.proofs.lemmas.Bool.Decides.{nat_tests}
use Rattle.std.proofs.lemmas.List.{length-replicate}
use Rattle.std.proofs.lemmas.List.Elements.{All-head, All-tail}
use Rattle.std.proofs.lemmas.List.Sums.{sum_by-cons}
use Rattle.tl_types.specs.Values.{int, text, ValueViews, no_values, value}
use Rattle.tl_types.specs.Texts.{text_bytes, text_head, three_bytes, missing}
use Rattle.box_events.specs.declared.limits.TheConstants.{MAX_KEY_BYTES, MAX_VALUE_BYTES}
use Rattle.box_events.specs.declared.settings.Setting.{Setting}
use Rattle.box_events.specs.Events.{EventView, added, edited, deleted, read}
use Rattle.box_events.specs.Weaving.{bodies, others_from}
use Rattle.box_server.specs.Entries.{bytes_of}
use Rattle.box_server.specs.Runs.{limited}
use Rattle.wire_forms.specs.declared.form.Cell.{Cell}
use Rattle.wire_forms.specs.declared.form.Cell.TheVariants.{Signed, Body, One}
use Rattle.wire_forms.specs.declared.numbers.TheConstants.{UPDATE_TYPE}
use Rattle.wire_forms.specs.Forms.{forms}
use Rattle.wire_forms.specs.Parts.{row}
use Rattle.wire_values.specs.Updates.{common_tree, channel_tree, placed_tree, setting_tree}
use Rattle.wire_values.specs.Others.{joined}
use Rattle.box_world.specs.Sizes.{size_in, sizes_of}

-- ---- texts

head_long : (n : ℕ) (b : Bool) → length (if b then n ∷ [] else 254 ∷ three_bytes n) ≤ 4
head_long n true = omega arith
head_long n false = omega arith

few_missing : (n : ℕ) → missing n ≤ 3
few_missing n = omega arith

pub text_size : (s : List ℕ) → length (text_bytes s) ≤ length s + 7
text_size s =
    let n : ℕ = length (text_head (length s)) + length s in
    let zeros : List ℕ = replicate (missing n) 0 in
    let all = length-append (text_head (length s) ++ s) zeros in
    let inner = length-append (text_head (length s)) s in
    let filling : length zeros ≡ missing n = length-replicate (missing n) 0 in
    let few = few_missing n in
    let head : length (text_head (length s)) ≤ 4 = head_long (length s) (nat_le (length s) 253) in
    omega (arith, all, inner, filling, few, head)

ids_size : (ids : List ℤ) → sizes_of Signed (row int ids) ≡ 4 * length ids
ids_size [] = refl
ids_size (x ∷ xs) = let e = ids_size xs in omega (arith, e)

-- ---- events with their ends

pub common_size : (e : EventView) (pts : ℕ) → size_in (One UPDATE_TYPE) (common_tree e pts) ≤ bytes_of e + 20
unfolding forms
common_size (added body) pts = let t = text_size body in omega (arith, t)
common_size (edited body) pts = let t = text_size body in omega (arith, t)
common_size (deleted ids) pts = let n = ids_size ids in omega (arith, n)
common_size (read id) pts = omega arith

pub channel_size : (id : ℤ) (e : EventView) (pts : ℕ) → size_in (One UPDATE_TYPE) (channel_tree id e pts) ≤ bytes_of e + 28
unfolding forms
channel_size id (added body) pts = let t = text_size body in omega (arith, t)
channel_size id (edited body) pts = let t = text_size body in omega (arith, t)
channel_size id (deleted ids) pts = let n = ids_size ids in omega (arith, n)
channel_size id (read m) pts = omega arith

pub setting_size : (x : Setting) → size_in (One UPDATE_TYPE) (setting_tree x) ≤ length x.key + length x.value + 18
unfolding forms
setting_size x = let a = text_size x.key in let b = text_size x.value in omega (arith, a, b)

-- ---- lists

pub joined_size : (c : Cell) (ts us : ValueViews) → sizes_of c (joined ts us) ≡ sizes_of c ts + sizes_of c us
joined_size c no_values us = omega arith
joined_size c (value t ts) us = let e = joined_size c ts us in omega (arith, e)

pub texts_size : (bs : List (List ℕ)) → sizes_of Body (row text bs) ≤ sum_by length bs + 7 * length bs
texts_size [] = omega arith
texts_size (b ∷ bs) =
    let e = texts_size bs in
    let t = text_size b in
    let s = sum_by-cons length b bs in
    omega (arith, e, t, s)

-- ---- a run

new_step : (t a b x s n sum : ℕ) → sum ≡ x + s → t ≤ x + 7 → a + b ≤ s + 20 * n → (t + a) + b ≤ sum + 20 * suc n
new_step t a b x s n sum is le more = omega (arith, is, le, more)

other_step : (c a b x s n sum : ℕ) → sum ≡ x + s → c ≤ x + 20 → a + b ≤ s + 20 * n → a + (c + b) ≤ sum + 20 * suc n
other_step c a b x s n sum is le more = omega (arith, is, le, more)

-- its messages and its other events
pub run_size : (p : ℕ) (es : List EventView) → sizes_of Body (row text (bodies es)) + sizes_of (One UPDATE_TYPE) (row placed_tree (others_from p es)) ≤ sum_by bytes_of es + 20 * length es
run_size p [] = omega arith
run_size p (added body ∷ es) = new_step _ _ _ (length body) (sum_by bytes_of es) (length es) _ (sum_by-cons bytes_of (added body) es) (text_size body) (run_size (p + 1) es)
run_size p (edited body ∷ es) = other_step _ _ _ (length body) (sum_by bytes_of es) (length es) _ (sum_by-cons bytes_of (edited body) es) (common_size (edited body) (p + 1)) (run_size (p + 1) es)
run_size p (deleted ids ∷ es) = other_step _ _ _ (4 * length ids) (sum_by bytes_of es) (length es) _ (sum_by-cons bytes_of (deleted ids) es) (common_size (deleted ids) (p + length ids)) (run_size (p + length ids) es)
run_size p (read id ∷ es) = other_step _ _ _ 4 (sum_by bytes_of es) (length es) _ (sum_by-cons bytes_of (read id) es) (common_size (read id) (p + 1)) (run_size (p + 1) es)

-- ---- prefixes with limits

limit_by : {A : Type 0} (size : A → ℕ) (b : ℕ) (x : A) (xs : List A) (t : Bool) → leb (size x) b ≡ t → sum_by size xs ≤ b - size x → sum_by size (if t then x ∷ xs else []) ≤ b
limit_by size b x xs true is le = let s = sum_by-cons size x xs in let fits : size x ≤ b = grind (arith, nat_tests, is) in omega (arith, s, fits, le)
limit_by size b x xs false is le = omega arith

pub limited_sum : {A : Type 0} (size : A → ℕ) (n b : ℕ) (xs : List A) → sum_by size (limited size n b xs) ≤ b
unfolding limited
limited_sum size zero b xs = omega arith
limited_sum size (suc n) b [] = omega arith
limited_sum size (suc n) b (x ∷ xs) = limit_by size b x (limited size n (b - size x) xs) (leb (size x) b) refl (limited_sum size n (b - size x) xs)

few_by : {A : Type 0} (n : ℕ) (x : A) (xs : List A) (t : Bool) → length xs ≤ n → length (if t then x ∷ xs else []) ≤ suc n
few_by n x xs true le = omega (arith, le)
few_by n x xs false le = omega arith

pub limited_length : {A : Type 0} (size : A → ℕ) (n b : ℕ) (xs : List A) → length (limited size n b xs) ≤ n
unfolding limited
limited_length size zero b xs = omega arith
limited_length size (suc n) b [] = omega arith
limited_length size (suc n) b (x ∷ xs) = few_by n x (limited size n (b - size x) xs) (leb (size x) b) (limited_length size n (b - size x) xs)

-- ---- settings

-- a setting with a key and a value within their limits
abbrev pub IsSmallSetting : Setting → Type 0
IsSmallSetting x = (length x.key ≤ MAX_KEY_BYTES) × (length x.value ≤ MAX_VALUE_BYTES)

pub settings_size : (xs : List Setting) → All IsSmallSetting xs → sizes_of (One UPDATE_TYPE) (row setting_tree xs) ≤ (18 + MAX_KEY_BYTES + MAX_VALUE_BYTES) * length xs
settings_size [] all = omega arith
settings_size (x ∷ xs) all =
    let small : IsSmallSetting x = All-head IsSmallSetting x xs all in
    let key = small.0 in
    let content = small.1 in
    let one = setting_size x in
    let rest = settings_size xs (All-tail IsSmallSetting x xs all) in
    omega (arith, key, content, one, rest)
