-- The parts of a client as a client. This project's own.
use Rattle.box_client.specs.declared.parts.ClientParts.{ClientParts}
use Rattle.channel_box.specs.States.{states}
use Rattle.box_client.specs.States.{ClientState}

abbrev pub client_of : ClientParts → ClientState
client_of p = record { next = p.next; common = p.common.state; secret = p.secret.state; settings = p.settings.state; flag = p.flag; channels = states p.channels }
