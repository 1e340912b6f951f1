-- How the logic stores a schema: types as nested pairs, everything else by the codes of its parts. This project's own.
use Rattle.std.specs.Prelude.{◌≡◌, ℕ, zero, suc, List, Bool, true, false, Option, refl}
use Rattle.std.proofs.Common.{ap, ap₂}
use Rattle.std.specs.Coded.{Coded, code_by, coded×, coded_ℕ, coded_bool, coded_list, coded_option}
use base.Stored.{Gv, gnil, gnum, gcons}
use denote.Struct.Codes.{itself}
use Rattle.tl_program.specs.Program.{DeclText}
use Rattle.tl_schema.specs.Types.{Shape, Shapes, int, long, nat, opaque, str, raw, flag, call, var, vector, boxed, bare, no_shapes, shape}
use Rattle.tl_schema.specs.Schemas.{Slot, Declaration, Declared}
use Rattle.tl_names.specs.inner.DeclCodes.{name_code, decls_code}

abbrev mutual
  shape_to : Shape → Gv
  shape_to int = gnum 0
  shape_to long = gnum 1
  shape_to nat = gnum 2
  shape_to str = gnum 3
  shape_to raw = gnum 4
  shape_to flag = gnum 5
  shape_to call = gnum 6
  shape_to (opaque n) = gcons (gnum 0) (gnum n)
  shape_to (var i) = gcons (gnum 1) (gnum i)
  shape_to (vector false s) = gcons (gnum 2) (shape_to s)
  shape_to (vector true s) = gcons (gnum 3) (shape_to s)
  shape_to (boxed h ss) = gcons (gcons (gnum 0) (gnum h)) (shapes_to ss)
  shape_to (bare e ss) = gcons (gcons (gnum 1) (gnum e)) (shapes_to ss)

  shapes_to : Shapes → Gv
  shapes_to no_shapes = gnil
  shapes_to (shape s ss) = gcons (shape_to s) (shapes_to ss)

abbrev number_from : Gv → ℕ
number_from gnil = 0
number_from (gnum n) = n
number_from (gcons x y) = 0

abbrev mutual
  shape_from : Gv → Shape
  shape_from gnil = int
  shape_from (gnum zero) = int
  shape_from (gnum (suc zero)) = long
  shape_from (gnum (suc (suc zero))) = nat
  shape_from (gnum (suc (suc (suc zero)))) = str
  shape_from (gnum (suc (suc (suc (suc zero))))) = raw
  shape_from (gnum (suc (suc (suc (suc (suc zero)))))) = flag
  shape_from (gnum n) = call
  shape_from (gcons gnil x) = int
  shape_from (gcons (gnum zero) x) = opaque (number_from x)
  shape_from (gcons (gnum (suc zero)) x) = var (number_from x)
  shape_from (gcons (gnum (suc (suc zero))) x) = vector false (shape_from x)
  shape_from (gcons (gnum n) x) = vector true (shape_from x)
  shape_from (gcons (gcons gnil y) x) = int
  shape_from (gcons (gcons (gnum zero) y) x) = boxed (number_from y) (shapes_from x)
  shape_from (gcons (gcons (gnum n) y) x) = bare (number_from y) (shapes_from x)
  shape_from (gcons (gcons (gcons a b) y) x) = int

  shapes_from : Gv → Shapes
  shapes_from gnil = no_shapes
  shapes_from (gnum n) = no_shapes
  shapes_from (gcons s ss) = shape (shape_from s) (shapes_from ss)

mutual
  pub shape_back : (s : Shape) → shape_from (shape_to s) ≡ s
  shape_back int = refl
  shape_back long = refl
  shape_back nat = refl
  shape_back str = refl
  shape_back raw = refl
  shape_back flag = refl
  shape_back call = refl
  shape_back (opaque n) = refl
  shape_back (var i) = refl
  shape_back (vector false s) = ap (vector false) (shape_back s)
  shape_back (vector true s) = ap (vector true) (shape_back s)
  shape_back (boxed h ss) = ap (boxed h) (shapes_back ss)
  shape_back (bare e ss) = ap (bare e) (shapes_back ss)

  pub shapes_back : (ss : Shapes) → shapes_from (shapes_to ss) ≡ ss
  shapes_back no_shapes = refl
  shapes_back (shape s ss) = ap₂ shape (shape_back s) (shapes_back ss)

abbrev shape_code : Coded Shape
shape_code = code_by Gv itself shape_to shape_from shape_back

abbrev slot_code : Coded Slot
slot_code =
    code_by ((List ℕ × Option (ℕ × ℕ)) × (Option ℕ × Shape)) (coded× (coded× name_code (coded_option (coded× coded_ℕ coded_ℕ))) (coded× (coded_option coded_ℕ) shape_code))
    (λ f. ((f.name, f.cond), (f.var, f.of))) (λ p. record { name = p.0.0; cond = p.0.1; var = p.1.0; of = p.1.1 }) (λ _. refl)

abbrev declaration_code : Coded Declaration
declaration_code =
    code_by (((List ℕ × ℕ) × (ℕ × List Slot)) × ((Bool × ℕ) × Shape))
    (coded× (coded× (coded× name_code coded_ℕ) (coded× coded_ℕ (coded_list slot_code))) (coded× (coded× coded_bool coded_ℕ) shape_code))
    (λ d. (((d.name, d.number), (d.vars, d.fields)), ((d.function, d.head), d.result)))
    (λ p. record {
      name = p.0.0.0;
      number = p.0.0.1;
      vars = p.0.1.0;
      fields = p.0.1.1;
      function = p.1.0.0;
      head = p.1.0.1;
      result = p.1.1;
    }) (λ _. refl)

abbrev pub declared_code : Coded Declared
declared_code =
    code_by (List DeclText × List Declaration) (coded× decls_code (coded_list declaration_code)) (λ s. (s.program, s.decls))
    (λ p. record { program = p.0; decls = p.1 }) (λ _. refl)
