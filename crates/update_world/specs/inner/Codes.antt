-- How the logic stores what is shown of a world. This project's own.
use Rattle.std.specs.Prelude.{◌≡◌, ℕ, zero, suc, List, refl, Option}
use Rattle.std.specs.Coded.{Coded, code_by, coded×, coded_ℕ, coded_list, coded_option}
use Rattle.box_server.specs.Servers.{ServerState}
use Rattle.box_server.specs.inner.ServerCodes.{server_code}
use Rattle.box_client.specs.States.{ClientState, client_code}
use Rattle.wire_profile.specs.Indexes.{ProfileView}
use Rattle.wire_profile.specs.inner.ProfileCodes.{profile_code}
use Rattle.box_world.specs.declared.fault.StepFault.{StepFault}
use Rattle.tl_base.specs.declared.fault.Fault.{Fault}
use Rattle.box_world.specs.declared.fault.StepFault.TheVariants.{NoClient, NoPacket, WrongEnd, PoolFull}
use Rattle.tl_base.specs.declared.fault.Fault.TheVariants.{Refused, Memory}
use Rattle.update_world.specs.declared.sent.SentPacket.{SentPacket}
use Rattle.update_world.specs.declared.sent.End.{End}
use Rattle.update_world.specs.declared.sent.End.TheVariants.{Clients, Server, Client}
use Rattle.update_world.specs.Shown.{Shown}

-- an end, and a refusal, as a kind and a number
abbrev pub end_pair : End → ℕ × ℕ
end_pair Clients = (0, 0)
end_pair (Server k) = (1, k)
end_pair (Client k) = (2, k)

abbrev pub end_of : ℕ × ℕ → End
end_of (zero, k) = Clients
end_of (suc zero, k) = Server k
end_of (suc (suc n), k) = Client k

pub end_back : (e : End) → end_of (end_pair e) ≡ e
end_back Clients = refl
end_back (Server k) = refl
end_back (Client k) = refl

abbrev pub fault_pair : Fault StepFault → ℕ × ℕ
fault_pair (Refused (NoClient n)) = (0, n)
fault_pair (Refused (NoPacket n)) = (1, n)
fault_pair (Refused (WrongEnd n)) = (2, n)
fault_pair (Refused (PoolFull n)) = (3, n)
fault_pair Memory = (4, 0)

abbrev pub fault_in : ℕ × ℕ → Fault StepFault
fault_in (zero, n) = Refused (NoClient n)
fault_in (suc zero, n) = Refused (NoPacket n)
fault_in (suc (suc zero), n) = Refused (WrongEnd n)
fault_in (suc (suc (suc zero)), n) = Refused (PoolFull n)
fault_in (suc (suc (suc (suc m))), n) = Memory

pub fault_back : (f : Fault StepFault) → fault_in (fault_pair f) ≡ f
fault_back (Refused (NoClient n)) = refl
fault_back (Refused (NoPacket n)) = refl
fault_back (Refused (WrongEnd n)) = refl
fault_back (Refused (PoolFull n)) = refl
fault_back Memory = refl

abbrev pub end_code : Coded End
end_code = code_by (ℕ × ℕ) (coded× coded_ℕ coded_ℕ) end_pair end_of end_back

abbrev pub fault_code : Coded (Fault StepFault)
fault_code = code_by (ℕ × ℕ) (coded× coded_ℕ coded_ℕ) fault_pair fault_in fault_back

abbrev pub sent_code : Coded SentPacket
sent_code = code_by (List ℕ × End) (coded× (coded_list coded_ℕ) end_code) (λ s. (s.bytes, s.to)) (λ p. record { bytes = p.0; to = p.1 }) (λ _. refl)

abbrev pub shown_code : Coded Shown
shown_code = code_by (ProfileView × (ServerState × (List ClientState × (List SentPacket × Option (Fault StepFault)))))
    (coded× profile_code (coded× server_code (coded× (coded_list client_code) (coded× (coded_list sent_code) (coded_option fault_code)))))
    (λ s. (s.profile, (s.server, (s.clients, (s.pool, s.spoiled)))))
    (λ p. record { profile = p.0; server = p.1.0; clients = p.1.1.0; pool = p.1.1.1.0; spoiled = p.1.1.1.1 }) (λ _. refl)
