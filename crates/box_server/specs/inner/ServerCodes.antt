-- How the logic stores what a server keeps. This project's own.
use Rattle.std.specs.Prelude.{ℕ, ℤ, List, refl}
use Rattle.std.specs.Coded.{Coded, code_by, coded×, coded_ℕ, coded_ℤ, coded_list}
use Rattle.std.specs.FinMap as map
use Rattle.box_events.specs.declared.positions.Receipt.{Receipt}
use Rattle.box_events.specs.Events.{EventView}
use Rattle.box_events.specs.SettingLists.{Dated}
use Rattle.box_events.specs.inner.EventCodes.{event_code}
use Rattle.box_server.specs.Servers.{ChannelBox, ServerState, Receipts}

abbrev pub dated_code : Coded Dated
dated_code = code_by (List ℕ × (List ℕ × ℕ)) (coded× (coded_list coded_ℕ) (coded× (coded_list coded_ℕ) coded_ℕ)) (λ d. (d.setting.key, (d.setting.value, d.date)))
    (λ p. record { setting = record { key = p.0; value = p.1.0 }; date = p.1.1 }) (λ _. refl)

abbrev pub channel_code : Coded ChannelBox
channel_code = code_by (ℤ × (ℕ × List EventView)) (coded× coded_ℤ (coded× coded_ℕ (coded_list event_code))) (λ c. (c.id, (c.first, c.events))) (λ p. record { id = p.0; first = p.1.0; events = p.1.1 }) (λ _. refl)

abbrev pub receipt_code : Coded Receipt
receipt_code = code_by (ℕ × (ℕ × (ℕ × ℕ))) (coded× coded_ℕ (coded× coded_ℕ (coded× coded_ℕ coded_ℕ))) (λ r. (r.pts, (r.qts, (r.date, r.seq)))) (λ p. record { pts = p.0; qts = p.1.0; date = p.1.1.0; seq = p.1.1.1 }) (λ _. refl)

abbrev pub server_code : Coded ServerState
server_code = code_by (ℕ × (List EventView × (List EventView × (List ChannelBox × (List Dated × Receipts)))))
    (coded× coded_ℕ (coded× (coded_list event_code) (coded× (coded_list event_code) (coded× (coded_list channel_code) (coded× (coded_list dated_code) (map.code coded_ℤ receipt_code))))))
    (λ s. (s.date, (s.common, (s.secret, (s.channels, (s.settings, s.receipts))))))
    (λ p. record { date = p.0; common = p.1.0; secret = p.1.1.0; channels = p.1.1.1.0; settings = p.1.1.1.1.0; receipts = p.1.1.1.1.1 }) (λ _. refl)
