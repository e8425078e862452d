-- The scale factors by which the low frequencies of a block are divided, as the f32 of the code, each given by its bits.
use Rattle.std.specs.Prelude.{ℕ, ◌*◌, ◌^◌, List, [], ◌∷◌, map, Float}
use Rattle.floats.specs.Arith.{float}
use Rattle.dct.specs.Transform.{at}

abbrev pub scale_bits : List ℕ
scale_bits =
    1065353216 ∷ 1065346584 ∷ 1065326699 ∷ 1065293587 ∷ 1065247295 ∷ 1065187887 ∷ 1065115446 ∷ 1065030073
    ∷ 1064931887 ∷ 1064821023 ∷ 1064697636 ∷ 1064561898 ∷ 1064413995 ∷ 1064254135 ∷ 1064082536 ∷ 1063899438
    ∷ 1063705093 ∷ 1063499768 ∷ 1063283748 ∷ 1063057328 ∷ 1062820821 ∷ 1062574550 ∷ 1062318853 ∷ 1062054080
    ∷ 1061780590 ∷ 1061498758 ∷ 1061208965 ∷ 1060911604 ∷ 1060607078 ∷ 1060295797 ∷ 1059978179 ∷ 1059654652 ∷ []

abbrev pub scales : List Float
scales = map float scale_bits

-- scale_f(c, k): the table's number c × 2 ^ k; there is none past the table's end
unfoldable pub scale : ℕ → ℕ → Float
scale c k = at scales (c * 2 ^ k)
