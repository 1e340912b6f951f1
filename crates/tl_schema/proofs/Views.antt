-- The shape of each type.
use Rattle.std.proofs.Common.{◌≡◌, ℕ, Bool, Box, Global, Vec, ap, ◌∙◌, map, rules}
use Rattle.tl_schema.specs.Types as type
use Rattle.tl_schema.specs.Types.{shapes_of}
use Rattle.tl_schema.specs.Seen.{shape}
use Rattle.tl_schema.specs.declared.schema.TypeRef.{TypeRef}
use Rattle.tl_schema.specs.declared.schema.TypeRef as ref

pub shape-Int : (t : TypeRef) → t ≡ ref.Int → shape t ≡ type.int
shape-Int t e = ap shape e ∙ search (rules, ref.the_lemmas)

pub shape-Long : (t : TypeRef) → t ≡ ref.Long → shape t ≡ type.long
shape-Long t e = ap shape e ∙ search (rules, ref.the_lemmas)

pub shape-Nat : (t : TypeRef) → t ≡ ref.Nat → shape t ≡ type.nat
shape-Nat t e = ap shape e ∙ search (rules, ref.the_lemmas)

pub shape-Double : (t : TypeRef) → t ≡ ref.Double → shape t ≡ type.opaque 8
shape-Double t e = ap shape e ∙ search (rules, ref.the_lemmas)

pub shape-Int128 : (t : TypeRef) → t ≡ ref.Int128 → shape t ≡ type.opaque 16
shape-Int128 t e = ap shape e ∙ search (rules, ref.the_lemmas)

pub shape-Int256 : (t : TypeRef) → t ≡ ref.Int256 → shape t ≡ type.opaque 32
shape-Int256 t e = ap shape e ∙ search (rules, ref.the_lemmas)

pub shape-Str : (t : TypeRef) → t ≡ ref.Str → shape t ≡ type.str
shape-Str t e = ap shape e ∙ search (rules, ref.the_lemmas)

pub shape-Raw : (t : TypeRef) → t ≡ ref.Raw → shape t ≡ type.raw
shape-Raw t e = ap shape e ∙ search (rules, ref.the_lemmas)

pub shape-Flag : (t : TypeRef) → t ≡ ref.Flag → shape t ≡ type.flag
shape-Flag t e = ap shape e ∙ search (rules, ref.the_lemmas)

pub shape-Call : (t : TypeRef) → t ≡ ref.Call → shape t ≡ type.call
shape-Call t e = ap shape e ∙ search (rules, ref.the_lemmas)

pub shape-Var : (t : TypeRef) (i : ℕ) → t ≡ ref.Var i → shape t ≡ type.var i
shape-Var t i e = ap shape e ∙ search (rules, ref.the_lemmas)

pub shape-Vector : (t : TypeRef) (wide : Bool) (item : Box TypeRef Global) → t ≡ ref.Vector wide item → shape t ≡ type.vector wide (shape item.value)
shape-Vector t wide item e = ap shape e ∙ search (rules, ref.the_lemmas)

pub shape-Boxed : (t : TypeRef) (h : ℕ) (args : Vec TypeRef Global) → t ≡ ref.Boxed h args → shape t ≡ type.boxed h (shapes_of (map shape args.items))
shape-Boxed t h args e = ap shape e ∙ search (rules, ref.the_lemmas)

pub shape-Bare : (t : TypeRef) (i : ℕ) (args : Vec TypeRef Global) → t ≡ ref.Bare i args → shape t ≡ type.bare i (shapes_of (map shape args.items))
shape-Bare t i args e = ap shape e ∙ search (rules, ref.the_lemmas)
