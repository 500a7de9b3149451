use Rattle.std.proofs.Common.{◌≡◌, Err, ap, ◌∙◌}
use Rattle.map.specs.declared.failing.AskError.TheVariants.{OutOfMemory}
use Rattle.raster.specs.Signs.{sign_of}
use Rattle.draw.proofs.Telling.{sign_told, no_sign}
use Rattle.draw.proofs.chart.Chart.sign_at.Goals as goal
use Rattle.draw.proofs.chart.Chart.sign_at.Goals.{in-Err+in-Refused-1, in-Ok-1}

pub returns-in-Err-OutOfMemory : goal.returns-in-Err-OutOfMemory
returns-in-Err-OutOfMemory c = no_sign c.args.point _ _ _ _ c.ask.result _ c.ask.ensures

pub returns-in-Ok : goal.returns-in-Ok
returns-in-Ok c =
    let answered : c.ask.result ≡ Err OutOfMemory → ⊥ = λ h. elim c.in-Ok-1.branch [ in-Err+in-Refused-1 w ↦ cc | in-Ok-1 w ↦ cc ] in
    sign_told c.args.point _ _ _ _ c.ask.result _ answered c.clear.ensures.items c.ask.ensures (c.sign.ensures ∙ ap sign_of c.as_slice.ensures.value)
