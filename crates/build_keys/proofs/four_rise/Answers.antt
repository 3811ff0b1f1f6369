use Rattle.build_keys.proofs.Fronts.{four_last, four_no}
use Rattle.std.proofs.Common.{◌∙◌, arith}
use Rattle.build_keys.proofs.four_rise.Goals as goal
use Rattle.build_keys.proofs.four_rise.Goals.{then-keys-p, else-keys-p, then-keys-p-2, else-keys-p-2}

-- src/lib.rt:19:1
pub returns-then-keys-p-3 : goal.returns-then-keys-p-3
returns-then-keys-p-3 c =
    elim c.if-keys-p-2.branch [
      | then-keys-p-2 w ↦ elim c.if-keys-p.branch [ then-keys-p v ↦ grind (arith, four_last) | else-keys-p v ↦ grind arith ]
      | else-keys-p-2 w ↦ grind arith
    ]

-- src/lib.rt:19:1
pub returns-else-keys-p-3 : goal.returns-else-keys-p-3
returns-else-keys-p-3 c =
    c.if-keys-p-3.false ∙ four_no _ _ (λ h.
    elim c.if-keys-p-2.branch [
      | then-keys-p-2 w ↦ elim c.if-keys-p.branch [ then-keys-p v ↦ grind (arith, h.third, h.second) | else-keys-p v ↦ grind (arith, h.first) ]
      | else-keys-p-2 w ↦ elim c.if-keys-p.branch [ then-keys-p v ↦ grind (arith, h.second) | else-keys-p v ↦ grind (arith, h.first) ]
    ])
