-- What a fault of the reader of lines is to a loading.
use Rattle.wq_io.specs.declared.lines.LineFault.{LineFault}
use Rattle.wq_io.specs.declared.lines.LineFault.TheVariants.{ReadFault as NotRead, TooLong as OverLong, LineLong, OutOfMemory as LineOutOfMemory}
use Rattle.checkpoint.specs.declared.fault.LoadFault.{LoadFault}
use Rattle.checkpoint.specs.declared.fault.LoadFault.TheVariants.{ReadFault, TooLong, BadLine, OutOfMemory}

abbrev pub fault_of : LineFault → LoadFault
fault_of NotRead = ReadFault
fault_of OverLong = TooLong
fault_of (LineLong number) = BadLine number
fault_of LineOutOfMemory = OutOfMemory
