-- A client's fault by that of weaving. This project's own.
use Rattle.tl_base.specs.declared.fault.Fault.{Fault}
use Rattle.tl_base.specs.declared.fault.Fault.TheVariants.{Refused, Memory}
use Rattle.box_events.specs.declared.difference_fault.WeaveFault.{WeaveFault}
use Rattle.box_client.specs.declared.fault.ClientFault.{ClientFault}
use Rattle.box_client.specs.declared.fault.ClientFault.TheVariants.{Weave}

abbrev pub fault_by : Fault WeaveFault → Fault ClientFault
fault_by (Refused cause) = Refused (Weave cause)
fault_by Memory = Memory
