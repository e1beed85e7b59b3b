mod Racks
