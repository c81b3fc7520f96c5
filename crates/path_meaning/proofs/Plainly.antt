-- To realise a function on no array is to realise it.
use Rattle.path_meaning.specs.Defective.{IsRealisingPlainly, IsRealisedPlainly}

pub realising_plainly : IsRealisingPlainly
realising_plainly g f = (λ h. record { on = h.on; off = h.off }, λ h. record { same_size = tt; on = h.on; off = h.off })

pub realised_plainly : IsRealisedPlainly
realised_plainly n rails f s = (
  λ h. record { lattice = h.lattice; kept = h.kept; size_is = h.size_is; over = h.over; realises = (realising_plainly h.lattice f).0 h.realises },
  λ h. record { lattice = h.lattice; kept = h.kept; size_is = h.size_is; over = h.over; realises = (realising_plainly h.lattice f).1 h.realises },
)
