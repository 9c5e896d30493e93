-- Worked values of the definitions of both standards, by computing. Assumes nothing.
use mathlib.Core.Bool.{true, false}
use mathlib.Core.Path.{◌≡◌, refl}
use Rattle.models.specs.declared.Direction.TheVariants.{In, Out}
use Rattle.standards.specs.Setup.{request_direction, request_kind, recipient_of, endpoint_number, endpoint_reserved, endpoint_direction}
use Rattle.standards.specs.Ports.{port_status_of}
use Rattle.standards.specs.Completion.{is_finished}

-- type 80h: from device to host, standard, to the device
pub get_descriptor_type : (request_direction 0x80 ≡ In) × (request_kind 0x80 ≡ 0) × (recipient_of 0x80 ≡ 0)
get_descriptor_type = (refl, refl, refl)

-- type 21h: from host to device, class, to an interface
pub class_type : (request_direction 0x21 ≡ Out) × (request_kind 0x21 ≡ 1) × (recipient_of 0x21 ≡ 1)
class_type = (refl, refl, refl)

-- endpoint address 81h: endpoint 1, IN
pub endpoint_81h : (endpoint_number 0x81 ≡ 1) × (endpoint_reserved 0x81 ≡ 0) × (endpoint_direction 0x81 ≡ In)
endpoint_81h = (refl, refl, refl)

-- document 02: port 1 reads 403h, connected and enabled at speed 1
pub port-403h :
    port_status_of 0x403
    ≡ record { connected = true; enabled = true; resetting = false; speed_code = 1; change_bits = 0 }
port-403h = refl

-- bits 0, 12, 17, 21 and 31: a connected port at speed 4 in warm reset, with CSC and PRC
pub port-warm-reset :
    port_status_of 0x8022_1001
    ≡ record { connected = true; enabled = false; resetting = true; speed_code = 4; change_bits = 0x22_0000 }
port-warm-reset = refl

-- every change, with bits 16 and 24 beside them, which are none
pub port-changes :
    port_status_of 0x01ff_0403
    ≡ record { connected = true; enabled = true; resetting = false; speed_code = 1; change_bits = 0xfe_0000 }
port-changes = refl

-- success and short packet end a transfer, a stall does not
pub finished_codes : (is_finished 1 ≡ true) × (is_finished 13 ≡ true) × (is_finished 6 ≡ false)
finished_codes = (refl, refl, refl)
