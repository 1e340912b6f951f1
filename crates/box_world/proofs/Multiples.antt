-- The size of a value of the forms is a multiple of 4.
use Rattle.std.specs.Prelude.{◌%◌, ◌/◌, replicate}
use Rattle.std.proofs.Common.{◌≡◌, ℕ, ◌+◌, ◌*◌, List, [], ◌∷◌, ◌++◌, length, length-append, Bool, true, false, refl, sym, subst, arith}
use Rattle.std.proofs.lemmas.List.{length-replicate}
use Rattle.tl_types.specs.Values.{ValueView, int, long, nat, opaque, text, truth, absent, list, node, call, ValueViews, no_values, value}
use Rattle.tl_types.specs.Texts.{text_bytes, text_head, missing}
use Rattle.wire_forms.specs.declared.form.Cell.{Cell}
use Rattle.wire_forms.specs.declared.form.Cell.TheVariants.{Whole, Signed, Long, Body, Key, Ids, Bodies, Flags, Final, Many, One, Bare, ManyBare, Query}
use Rattle.wire_forms.specs.Forms.{cells_of}
use Rattle.wire_forms.specs.Parts.{first, flag}
use Rattle.wire_forms.specs.IsOf.{IsOf, EachOf, AreOf}
use Rattle.box_world.proofs.Fields.{field_has}
use Rattle.box_world.specs.Sizes.{size_in, sizes_of, fields_size}

abbrev pub IsMultiple : ℕ → Type 0
IsMultiple n = (q : ℕ) × (n ≡ 4 * q)

both : (m n : ℕ) → IsMultiple m → IsMultiple n → IsMultiple (m + n)
both m n a b = let x = a.1 in let y = b.1 in (a.0 + b.0, omega (arith, x, y))

more : (c n : ℕ) → IsMultiple n → IsMultiple (4 * c + n)
more c n a = both (4 * c) n (c, refl) a

pub whole : (n : ℕ) → IsMultiple n → n % 4 ≡ 0
whole n a = let e = a.1 in omega (arith, e)

filled : (n : ℕ) → IsMultiple (n + missing n)
filled n = ((n + 3) / 4, omega arith)

text_whole : (s : List ℕ) → IsMultiple (length (text_bytes s))
text_whole s =
    let n : ℕ = length (text_head (length s)) + length s in
    let zeros : List ℕ = replicate (missing n) 0 in
    let all = length-append (text_head (length s) ++ s) zeros in
    let inner = length-append (text_head (length s)) s in
    let filling : length zeros ≡ missing n = length-replicate (missing n) 0 in
    let long : length (text_bytes s) ≡ n + missing n = omega (arith, all, inner, filling) in
    subst IsMultiple (sym long) (filled n)

no_opaque : (c : Cell) (x : List ℕ) → IsOf c (opaque x) → ⊥
no_opaque Whole x is = is
no_opaque Signed x is = is
no_opaque Long x is = is
no_opaque Body x is = is
no_opaque Key x is = is
no_opaque Ids x is = is
no_opaque Bodies x is = is
no_opaque Flags x is = is
no_opaque Final x is = is
no_opaque (Many h) x is = is
no_opaque (One h) x is = is
no_opaque (Bare j) x is = is
no_opaque (ManyBare j) x is = is
no_opaque Query x is = is

flag_whole : (b : Bool) → IsMultiple (size_in Final (flag b))
flag_whole true = (0, refl)
flag_whole false = (0, refl)

mutual
  pub is_whole : (t : ValueView) (c : Cell) → IsOf c t → IsMultiple (size_in c t)
  is_whole (int z) c is = (1, refl)
  is_whole (long z) c is = (2, refl)
  is_whole (nat n) c is = (1, refl)
  is_whole (opaque x) c is = absurd (no_opaque c x is)
  is_whole (text s) c is = text_whole s
  is_whole truth c is = (0, refl)
  is_whole absent c is = (0, refl)
  is_whole (list vs) Ids is = more 2 (sizes_of Signed vs) (each_whole vs Signed is.1)
  is_whole (list vs) Bodies is = more 2 (sizes_of Body vs) (each_whole vs Body is.1)
  is_whole (list vs) (Many h) is = more 2 (sizes_of (One h) vs) (each_whole vs (One h) is.1)
  is_whole (list vs) (ManyBare j) is = more 2 (sizes_of (Bare j) vs) (each_whole vs (Bare j) is.1)
  is_whole (node k vs) (One h) is = more 1 (fields_size (cells_of k) vs) (fields_whole vs (first vs) (cells_of k) is.1)
  is_whole (node k vs) (Bare j) is = more 0 (fields_size (cells_of k) vs) (subst (λ (i : ℕ). IsMultiple (fields_size (cells_of i) vs)) (sym is.0) (fields_whole vs (first vs) (cells_of j) is.1))
  is_whole (call k vs) Query is = more 1 (fields_size (cells_of k) vs) (fields_whole vs (first vs) (cells_of k) is.1)
  is_whole t c is = absurd is

  each_whole : (vs : ValueViews) (c : Cell) → EachOf c vs → IsMultiple (sizes_of c vs)
  each_whole no_values c is = (0, refl)
  each_whole (value v vs) c is = both (size_in c v) (sizes_of c vs) (is_whole v c is.0) (each_whole vs c is.1)

  fields_whole : (vs : ValueViews) (flags : ValueView) (cs : List Cell) → AreOf flags cs vs → IsMultiple (fields_size cs vs)
  fields_whole no_values flags [] is = (0, refl)
  fields_whole no_values flags (c ∷ cs) is = absurd is
  fields_whole (value v vs) flags [] is = absurd is
  fields_whole (value v vs) flags (c ∷ cs) is = both (size_in c v) (fields_size cs vs) (field_has (λ k w. IsMultiple (size_in k w)) flag_whole flags c v (λ of. is_whole v c of) is.0) (fields_whole vs flags cs is.1)
