-- What a contract sees of a sender whose next frame is written where it stays.
use Rattle.std.specs.Prelude.{Bool, refl}
use Rattle.std.specs.Coded.{Coded, code_by, coded×, coded_bool}
use Rattle.gb_link.specs.SendWindow.{SendWindow, send_window_code}

-- the window, which is all that the link sees of the sender; the spare; and true if memory was reserved
-- for the spare to be the next frame
pub record Spaced (F : Type 0) : Type 0 where
  pub window : SendWindow F
  pub spare : F
  pub spaced : Bool

-- it is stored as the triple of its fields
abbrev pub spaced_code : {F : Type 0} → Coded F → Coded (Spaced F)
spaced_code {F} code =
    code_by (SendWindow F × (F × Bool)) (coded× (send_window_code code) (coded× code coded_bool)) (λ s. (s.window, (s.spare, s.spaced)))
    (λ p. record { window = p.0; spare = p.1.0; spaced = p.1.1 }) (λ _. refl)
